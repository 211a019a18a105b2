-- Lists of nodes, joined one after the other.
use Rattle.std.proofs.Common.{◌≡◌, ℕ, ◌+◌, ◌≤◌, ◌<◌, List, [], ◌∷◌, ◌++◌, length, drop, get_or, map, refl, sym, ap, ◌∙◌}
use Rattle.std.proofs.lemmas.List.{drop_more, drop_all}
use Rattle.qvt_types_data.specs.declared.note.Note.{Note}
use Rattle.qvt_tree_types.specs.Tree.{ExprTerm, LinkTerm, ItemTerm, StepTerm, StmtTerm, ArmTerm}
use Rattle.qvt_tree_types.specs.View.{exprs_of, links_of, items_of, steps_of, stmts_of, arms_of}
use Rattle.qvt_tree_types.specs.declared.words.Sign.{Sign}
use Rattle.qvt_types_nodes.specs.Tree.{TypedMoreExprs, TypedMoreLinks, TypedMoreItems, TypedMoreSteps, TypedMoreStmts, TypedMoreArms}
use Rattle.qvt_types_nodes.specs.View.{typed_exprs_of, typed_links_of, typed_items_of, typed_steps_of, typed_stmts_of, typed_arms_of}
use Rattle.qvt_types_laws.specs.Join.{NoteTaker, join_sign, join_signs, join_expr, join_exprs, join_link, join_links, join_item, join_items, join_step, join_steps, join_stmt, join_stmts, join_arm, join_arms}
use Rattle.qvt_types_laws.specs.JoinModule.{join_all}

-- nodes that were joined before, and what is joined after them
abbrev pub after : {B : Type 0} → List B → List B × List Note → List B × List Note
after done r = (done ++ r.0, r.1)

-- the same, seen otherwise
abbrev pub seen : {B C : Type 0} → (B → C) → B × List Note → C × List Note
seen view r = (view r.0, r.1)

after_one : {B : Type 0} (done : List B) (y : B) (ys : List B) → done ++ y ∷ ys ≡ (done ++ y ∷ []) ++ ys
after_one [] y ys = refl
after_one (x ∷ done) y ys = ap (λ l. x ∷ l) (after_one done y ys)

after_none : {B : Type 0} (done : List B) → done ++ [] ≡ done
after_none [] = refl
after_none (x ∷ done) = ap (λ l. x ∷ l) (after_none done)

map_one : {A B : Type 0} (view : A → B) (done : List A) (y : A) → map view done ++ view y ∷ [] ≡ map view (done ++ y ∷ [])
map_one view [] y = refl
map_one view (x ∷ done) y = ap (λ l. view x ∷ l) (map_one view done y)

next : {A B : Type 0} (p : A → NoteTaker B) (whole : List B × List Note) (done : List B) (x : A) (rest : List A) (y : B) (old new : List Note) → whole ≡ after done (join_all p (x ∷ rest) old) → p x old ≡ (y, new) → whole ≡ after (done ++ y ∷ []) (join_all p rest new)
next p whole done x rest y old new w e =
    w ∙ ap (λ r. (done ++ r.0 ∷ (join_all p rest r.1).0, (join_all p rest r.1).1)) e
    ∙ ap (λ l. (l, (join_all p rest new).1)) (after_one done y (join_all p rest new).0)

-- one more node of a list
pub plain_next : {A B : Type 0} (p : A → NoteTaker B) (whole : List B × List Note) (of : List A) (i : ℕ) (x : A) (done : List B) (y : B) (more : List B) (old new : List Note) → whole ≡ after done (join_all p (drop i of) old) → i < length of → x ≡ get_or of i x → p x old ≡ (y, new) → more ≡ done ++ y ∷ [] → whole ≡ after more (join_all p (drop (i + 1) of) new)
plain_next p whole of i x done y more old new w h at e m =
    next p whole done (get_or of i x) (drop (i + 1) of) y old new (w ∙ ap (λ l. after done (join_all p l old)) (drop_more of i x h)) (ap (λ z. p z old) (sym at) ∙ e)
    ∙ ap (λ l. after l (join_all p (drop (i + 1) of) new)) (sym m)

pub plain_end : {A B : Type 0} (p : A → NoteTaker B) (whole : List B × List Note) (of : List A) (i : ℕ) (done : List B) (ns : List Note) → whole ≡ after done (join_all p (drop i of) ns) → length of ≤ i → whole ≡ (done, ns)
plain_end p whole of i done ns w h =
    w ∙ ap (λ l. after done (join_all p l ns)) (drop_all i of h) ∙ ap (λ l. (l, ns)) (after_none done)

-- the same of nodes that have a view
module _ {A B C D : Type 0} (p : C → NoteTaker D) (v : A → C) (tv : B → D) (whole : List D × List Note) (of : List A) (i : ℕ) where
  pub view_next : (x : A) (done : List B) (y : B) (more : List B) (old new : List Note) → whole ≡ after (map tv done) (join_all p (map v (drop i of)) old) → i < length of → x ≡ get_or of i x → p (v x) old ≡ (tv y, new) → more ≡ done ++ y ∷ [] → whole ≡ after (map tv more) (join_all p (map v (drop (i + 1) of)) new)
  view_next x done y more old new w h at e m =
      next p whole (map tv done) (v (get_or of i x)) (map v (drop (i + 1) of)) (tv y) old new (w ∙ ap (λ l. after (map tv done) (join_all p (map v l) old)) (drop_more of i x h)) (ap (λ z. p (v z) old) (sym at) ∙ e)
      ∙ ap (λ l. after l (join_all p (map v (drop (i + 1) of)) new)) (map_one tv done y ∙ ap (map tv) (sym m))

  pub view_end : (done : List B) (ns : List Note) → whole ≡ after (map tv done) (join_all p (map v (drop i of)) ns) → length of ≤ i → whole ≡ (map tv done, ns)
  view_end done ns w h =
      w ∙ ap (λ l. after (map tv done) (join_all p (map v l) ns)) (drop_all i of h) ∙ ap (λ l. (l, ns)) (after_none (map tv done))

-- each kind of list is joined one after the other
pub signs_joined : (xs : List Sign) (ns : List Note) → join_signs xs ns ≡ join_all join_sign xs ns
signs_joined [] ns = refl
signs_joined (x ∷ xs) ns = ap (λ r. ((join_sign x ns).0 ∷ r.0, r.1)) (signs_joined xs (join_sign x ns).1)

pub exprs_joined : (xs : List ExprTerm) (ns : List Note) → join_exprs (exprs_of xs) ns ≡ seen typed_exprs_of (join_all join_expr xs ns)
exprs_joined [] ns = refl
exprs_joined (x ∷ xs) ns = ap (λ r. (TypedMoreExprs (join_expr x ns).0 r.0, r.1)) (exprs_joined xs (join_expr x ns).1)

pub links_joined : (xs : List LinkTerm) (ns : List Note) → join_links (links_of xs) ns ≡ seen typed_links_of (join_all join_link xs ns)
links_joined [] ns = refl
links_joined (x ∷ xs) ns = ap (λ r. (TypedMoreLinks (join_link x ns).0 r.0, r.1)) (links_joined xs (join_link x ns).1)

pub items_joined : (xs : List ItemTerm) (ns : List Note) → join_items (items_of xs) ns ≡ seen typed_items_of (join_all join_item xs ns)
items_joined [] ns = refl
items_joined (x ∷ xs) ns = ap (λ r. (TypedMoreItems (join_item x ns).0 r.0, r.1)) (items_joined xs (join_item x ns).1)

pub steps_joined : (xs : List StepTerm) (ns : List Note) → join_steps (steps_of xs) ns ≡ seen typed_steps_of (join_all join_step xs ns)
steps_joined [] ns = refl
steps_joined (x ∷ xs) ns = ap (λ r. (TypedMoreSteps (join_step x ns).0 r.0, r.1)) (steps_joined xs (join_step x ns).1)

pub stmts_joined : (xs : List StmtTerm) (ns : List Note) → join_stmts (stmts_of xs) ns ≡ seen typed_stmts_of (join_all join_stmt xs ns)
stmts_joined [] ns = refl
stmts_joined (x ∷ xs) ns = ap (λ r. (TypedMoreStmts (join_stmt x ns).0 r.0, r.1)) (stmts_joined xs (join_stmt x ns).1)

pub arms_joined : (xs : List ArmTerm) (ns : List Note) → join_arms (arms_of xs) ns ≡ seen typed_arms_of (join_all join_arm xs ns)
arms_joined [] ns = refl
arms_joined (x ∷ xs) ns = ap (λ r. (TypedMoreArms (join_arm x ns).0 r.0, r.1)) (arms_joined xs (join_arm x ns).1)
