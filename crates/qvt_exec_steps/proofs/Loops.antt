-- The iterators by what they do with the items of their sources.
use Rattle.std.proofs.Common.{◌≡◌, ◌≢◌, ℕ, ◌∙◌, refl, sym, ap, subst, option_map, Bool, true, false, if◌then◌else◌, Option, Some, None, List, [], ◌∷◌}
use Rattle.qvt_base.specs.declared.numbers.Place.{Place}
use Rattle.qvt_value.specs.declared.value.Value.{Value}
use Rattle.qvt_types_steps.specs.declared.iterators.IteratorKind.{IteratorKind}
use Rattle.qvt_types_steps.specs.declared.iterators.IteratorKind.TheVariants as iterator
use Rattle.qvt_run_data.specs.declared.late.LateWrite.{LateWrite}
use Rattle.qvt_run_rules.specs.State.{Does}
use Rattle.qvt_run_rules.specs.Cost.{spend_of}
use Rattle.qvt_run_rules.specs.Iterators as each
use Rattle.qvt_exec_types.specs.Readings as by
use Rattle.qvt_exec_types.specs.Readings.{HeadDoes}
use Rattle.qvt_exec_leaves.specs.Heads.{is_iterate, iterates, name_in, name_of}
use Rattle.qvt_exec_loops.specs.Laws.{by_turns}
use Rattle.qvt_exec_steps.specs.Loops.{named_alone}
use Rattle.qvt_exec_invocations.specs.Means.{Scene, head_of, setting_of}
use Rattle.qvt_exec_types.specs.Phrases as phrase
use Rattle.qvt_types_nodes.specs.Tree.{TypedHeadTerm, TypedNoHead, TypedHeadOf}
use Rattle.qvt_types_nodes.specs.View.{typed_head_view, typed_optional_head}
use Rattle.qvt_types_nodes.specs.declared.tree.TypedHead.{TypedHead}
use Rattle.qvt_types_steps.specs.Classes.{is_selection}
use Rattle.qvt_types_steps.specs.IteratorTable.{iterator_named}

abbrev IsLoop : IteratorKind → Type 0
IsLoop iterator.Iterate = ⊥
IsLoop iterator.Closure = ⊥
IsLoop i = Unit {0}

-- the body for an item
abbrev body_of : HeadDoes LateWrite → Does LateWrite Value → Value → Does LateWrite Value
body_of h p = each.for_item h.name p

loop_is : (x : Scene) (i : IteratorKind) → IsLoop i → (h : HeadDoes LateWrite) (p : Does LateWrite Value) (at : Place) (v : Value) →
    by.iterator_by (setting_of x) i h p at v ≡ each.iterated (spend_of x.0.limit) at h.name p (by_turns i at (body_of h p)) v
unfolding each.select each.reject each.collect each.collect_nested each.exists_ each.for_all each.any each.one each.is_unique each.sorted_by
loop_is x iterator.Select is h p at v = refl
loop_is x iterator.Reject is h p at v = refl
loop_is x iterator.Collect is h p at v = refl
loop_is x iterator.CollectNested is h p at v = refl
loop_is x iterator.Exists is h p at v = refl
loop_is x iterator.ForAll is h p at v = refl
loop_is x iterator.Any is h p at v = refl
loop_is x iterator.One is h p at v = refl
loop_is x iterator.IsUnique is h p at v = refl
loop_is x iterator.SortedBy is h p at v = refl
loop_is x iterator.Iterate is h p at v = absurd is
loop_is x iterator.Closure is h p at v = absurd is

pub loop_by : (x : Scene) (i : IteratorKind) (h : HeadDoes LateWrite) (p : Does LateWrite Value) (at : Place) (v : Value) → i ≢ iterator.Closure → i ≢ iterator.Iterate →
    by.iterator_by (setting_of x) i h p at v ≡ each.iterated (spend_of x.0.limit) at h.name p (by_turns i at (body_of h p)) v
loop_by x iterator.Select h p at v c d = loop_is x iterator.Select tt h p at v
loop_by x iterator.Reject h p at v c d = loop_is x iterator.Reject tt h p at v
loop_by x iterator.Collect h p at v c d = loop_is x iterator.Collect tt h p at v
loop_by x iterator.CollectNested h p at v c d = loop_is x iterator.CollectNested tt h p at v
loop_by x iterator.Exists h p at v c d = loop_is x iterator.Exists tt h p at v
loop_by x iterator.ForAll h p at v c d = loop_is x iterator.ForAll tt h p at v
loop_by x iterator.Any h p at v c d = loop_is x iterator.Any tt h p at v
loop_by x iterator.One h p at v c d = loop_is x iterator.One tt h p at v
loop_by x iterator.IsUnique h p at v c d = loop_is x iterator.IsUnique tt h p at v
loop_by x iterator.SortedBy h p at v c d = loop_is x iterator.SortedBy tt h p at v
loop_by x iterator.Iterate h p at v c d = absurd (d refl)
loop_by x iterator.Closure h p at v c d = absurd (c refl)

-- without its accumulator an iterator that is not `iterate` is the same
abbrev pub alone : HeadDoes LateWrite → HeadDoes LateWrite
alone h = named_alone h.name

abbrev IsOther : IteratorKind → Type 0
IsOther iterator.Iterate = ⊥
IsOther i = Unit {0}

alone_by : (x : Scene) (i : IteratorKind) → IsOther i → (h : HeadDoes LateWrite) (p : Does LateWrite Value) (at : Place) (v : Value) →
    by.iterator_by (setting_of x) i h p at v ≡ by.iterator_by (setting_of x) i (alone h) p at v
alone_by x iterator.Select is h p at v = refl
alone_by x iterator.Reject is h p at v = refl
alone_by x iterator.Collect is h p at v = refl
alone_by x iterator.CollectNested is h p at v = refl
alone_by x iterator.Exists is h p at v = refl
alone_by x iterator.ForAll is h p at v = refl
alone_by x iterator.Any is h p at v = refl
alone_by x iterator.One is h p at v = refl
alone_by x iterator.IsUnique is h p at v = refl
alone_by x iterator.SortedBy is h p at v = refl
alone_by x iterator.Iterate is h p at v = absurd is
alone_by x iterator.Closure is h p at v = refl

alone_step : (x : Scene) (i : IteratorKind) → IsOther i → (h : HeadDoes LateWrite) (ps : List (Does LateWrite Value)) (at : Place) (v : Value) →
    by.iterator_step (setting_of x) i h ps at v ≡ by.iterator_step (setting_of x) i (alone h) ps at v
alone_step x i is h [] at v = refl
alone_step x i is h (p ∷ []) at v = alone_by x i is h p at v
alone_step x i is h (p ∷ r ∷ ps) at v = refl

abbrev Only : Bool → Type 0
Only true = Unit {0}
Only false = ⊥

is_other : (i : IteratorKind) → is_iterate (Some i) ≡ false → IsOther i
is_other iterator.Select e = tt
is_other iterator.Reject e = tt
is_other iterator.Collect e = tt
is_other iterator.CollectNested e = tt
is_other iterator.Exists e = tt
is_other iterator.ForAll e = tt
is_other iterator.Any e = tt
is_other iterator.One e = tt
is_other iterator.IsUnique e = tt
is_other iterator.SortedBy e = tt
is_other iterator.Iterate e = subst Only e tt
is_other iterator.Closure e = tt

-- as it is without the names that tell
abbrev arrow_as : Scene → Bool → Option IteratorKind → List ℕ → HeadDoes LateWrite → List (Does LateWrite Value) → Option ℕ → Place → Value → Does LateWrite Value
arrow_as x b o name h ps c at v = if b then by.selection_by (spend_of x.0.limit) name c at v else by.named_step (setting_of x) o name h ps at v

alone_as : (x : Scene) (b : Bool) (o : Option IteratorKind) (name : List ℕ) (h : HeadDoes LateWrite) (ps : List (Does LateWrite Value)) (c : Option ℕ) (at : Place) (v : Value) →
    (if b then false else is_iterate o) ≡ false → arrow_as x b o name h ps c at v ≡ arrow_as x b o name (alone h) ps c at v
alone_as x true o name h ps c at v e = refl
alone_as x false None name h ps c at v e = refl
alone_as x false (Some i) name h ps c at v e = alone_step x i (is_other i e) h ps at v

-- a step that is not `iterate` has no accumulator
pub alone_on : (x : Scene) (name : List ℕ) (h : HeadDoes LateWrite) (ps : List (Does LateWrite Value)) (c : Option ℕ) (at : Place) (v : Value) →
    iterates name ≡ false → by.arrow_on (setting_of x) name h ps c at v ≡ by.arrow_on (setting_of x) name (alone h) ps c at v
alone_on x name h ps c at v e = alone_as x (is_selection name) (iterator_named name) name h ps c at v e

no_iterate : {X : Type 0} → false ≡ true → X
no_iterate e = absurd (subst Only (sym e) tt)

is_it : (i : IteratorKind) → is_iterate (Some i) ≡ true → i ≡ iterator.Iterate
is_it iterator.Select e = no_iterate e
is_it iterator.Reject e = no_iterate e
is_it iterator.Collect e = no_iterate e
is_it iterator.CollectNested e = no_iterate e
is_it iterator.Exists e = no_iterate e
is_it iterator.ForAll e = no_iterate e
is_it iterator.Any e = no_iterate e
is_it iterator.One e = no_iterate e
is_it iterator.IsUnique e = no_iterate e
is_it iterator.SortedBy e = no_iterate e
is_it iterator.Iterate e = refl
is_it iterator.Closure e = no_iterate e

iterates_as : (x : Scene) (b : Bool) (o : Option IteratorKind) (name : List ℕ) (h : HeadDoes LateWrite) (ps : List (Does LateWrite Value)) (c : Option ℕ) (at : Place) (v : Value) →
    (if b then false else is_iterate o) ≡ true → arrow_as x b o name h ps c at v ≡ by.iterator_step (setting_of x) iterator.Iterate h ps at v
iterates_as x true o name h ps c at v e = no_iterate e
iterates_as x false None name h ps c at v e = no_iterate e
iterates_as x false (Some i) name h ps c at v e = ap (λ (k : IteratorKind). by.iterator_step (setting_of x) k h ps at v) (is_it i e)

-- a step that is `iterate`
pub iterates_on : (x : Scene) (name : List ℕ) (h : HeadDoes LateWrite) (ps : List (Does LateWrite Value)) (c : Option ℕ) (at : Place) (v : Value) →
    iterates name ≡ true → by.arrow_on (setting_of x) name h ps c at v ≡ by.iterator_step (setting_of x) iterator.Iterate h ps at v
iterates_on x name h ps c at v e = iterates_as x (is_selection name) (iterator_named name) name h ps c at v e

name_there : (x : Scene) (t : TypedHeadTerm) → (phrase.head (setting_of x) x.1.calls x.0.answer.now t).name ≡ name_in t
unfolding phrase.head
name_there x TypedNoHead = refl
name_there x (TypedHeadOf name t a at n) = refl

pub name_here : (x : Scene) (h : Option TypedHead) → (head_of x h).name ≡ name_of h
unfolding head_of
name_here x h = name_there x (typed_optional_head (option_map typed_head_view h))

-- the same of a step as it is written
pub arrow_alone : (x : Scene) (name : List ℕ) (h : Option TypedHead) (item : Option (List ℕ)) (ps : List (Does LateWrite Value)) (c : Option ℕ) (at : Place) (v : Value) → iterates name ≡ false → item ≡ name_of h →
    by.arrow_on (setting_of x) name (head_of x h) ps c at v ≡ by.arrow_on (setting_of x) name (named_alone item) ps c at v
arrow_alone x name h item ps c at v other is =
    alone_on x name (head_of x h) ps c at v other ∙ ap (λ n. by.arrow_on (setting_of x) name (named_alone n) ps c at v) (name_here x h ∙ sym is)
