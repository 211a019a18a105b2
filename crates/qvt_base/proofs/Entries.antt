-- A scan of a log of writes finds what its map holds.
use Rattle.std.proofs.Common.{◌≡◌, ◌∙◌, ap, ℕ, List, ◌∷◌, Bool, true, false, cond, Some}
use Rattle.std.specs.Str.{bytes_eq}
use Rattle.std.specs.Ordering.{nat_cmp}
use Rattle.std.specs.Cmp.Lexicographic.{slice_cmp}
use Rattle.std.specs.FinMap.{find}
use Rattle.std.proofs.lemmas.Map.Text.{is_eq-slice_cmp}
use Rattle.std.proofs.lemmas.Cmp.{nat_list_eq_equiv}
use Rattle.qvt_base.specs.MemFiles.{pairs}
use Rattle.qvt_base.specs.declared.mem_files.HeldFile.{HeldFile}

-- what is found in a log whose first entry is e
at_first : (name : List ℕ) (es rest : List HeldFile) (e : HeldFile) (b : Bool) → es ≡ e ∷ rest → bytes_eq e.name name ≡ b
    → find (slice_cmp nat_cmp) name (pairs es) ≡ cond b (Some e.bytes) (find (slice_cmp nat_cmp) name (pairs rest))
at_first name es rest e b is same =
    ap (λ xs. find (slice_cmp nat_cmp) name (pairs xs)) is
    ∙ ap (λ t. cond t (Some e.bytes) (find (slice_cmp nat_cmp) name (pairs rest)))
    (is_eq-slice_cmp name e.name ∙ nat_list_eq_equiv.symm name e.name ∙ same)

pub found_first : (name : List ℕ) (es rest : List HeldFile) (e : HeldFile) → es ≡ e ∷ rest → bytes_eq e.name name ≡ true
    → find (slice_cmp nat_cmp) name (pairs es) ≡ Some e.bytes
found_first name es rest e is same = at_first name es rest e true is same

pub found_later : (name : List ℕ) (es rest : List HeldFile) (e : HeldFile) → es ≡ e ∷ rest → bytes_eq e.name name ≡ false
    → find (slice_cmp nat_cmp) name (pairs es) ≡ find (slice_cmp nat_cmp) name (pairs rest)
found_later name es rest e is other = at_first name es rest e false is other
