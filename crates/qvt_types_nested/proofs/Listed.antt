-- A list of nodes, when all of them are joined.
use Rattle.std.proofs.Common.{◌≡◌, ℕ, ◌≤◌, List, length, drop, map, ap, ◌∙◌}
use Rattle.qvt_types_data.specs.declared.note.Note.{Note}
use Rattle.qvt_types_laws.specs.Join.{NoteTaker}
use Rattle.qvt_types_laws.specs.JoinModule.{join_all}
use Rattle.qvt_types_leaves.proofs.Lists.{after, seen, view_end}

pub listed : {A B C D Cs Ds : Type 0} (p : C → NoteTaker D) (v : A → C) (tv : B → D) (ps : Cs → NoteTaker Ds) (cs : List C → Cs) (ds : List D → Ds) → ((xs : List C) (ns : List Note) → ps (cs xs) ns ≡ seen ds (join_all p xs ns)) → (of : List A) (i : ℕ) (done : List B) (old new : List Note) → join_all p (map v of) old ≡ after (map tv done) (join_all p (map v (drop i of)) new) → length of ≤ i → ps (cs (map v of)) old ≡ (ds (map tv done), new)
listed p v tv ps cs ds joined of i done old new w h = joined (map v of) old ∙ ap (seen ds) (view_end p v tv (join_all p (map v of) old) of i done new w h)
