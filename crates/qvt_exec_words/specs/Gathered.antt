-- The items of a collection literal (OCL 2.4, 7.5.11), of which no more are held than tell what collection they make.
use Rattle.std.specs.Prelude.{◌≡◌, ◌<◌, ◌≤◌, ◌*◌, Bool, true, false, List, [], ◌∷◌, ◌++◌, length}
use Rattle.std.specs.List.{find}
use Rattle.qvt_value.specs.declared.value.Value.{Value, Invalid}
use Rattle.qvt_value.specs.declared.value.Kind.{Kind}
use Rattle.qvt_value.specs.declared.value.Kind.TheVariants.{Set, Bag, Sequence, OrderedSet}
use Rattle.qvt_value.specs.Kept.{firsts}
use Rattle.qvt_value.specs.Limits.{most}
use Rattle.qvt_value.specs.Make.{is_invalid}
use Rattle.qvt_value.specs.Order.{order_of}
use Rattle.qvt_run_rules.specs.Expressions.{integers_to}
use Rattle.qvt_exec_words.specs.declared.literals.Ends.{Ends}
use Rattle.qvt_exec_words.specs.declared.literals.Ends.TheVariants.{Item, Integers}
use Rattle.qvt_exec_words.specs.declared.literals.Gathered.{Gathered}

-- the items of a range with these ends
abbrev pub items_between : Ends → List Value
items_between (Item r p) = Invalid r p ∷ []
items_between (Integers a b) = integers_to a b

-- what a collection of the kind keeps of a list, in the order of the list
abbrev pub kept_of : Kind → List Value → List Value
kept_of Set xs = firsts order_of xs
kept_of OrderedSet xs = firsts order_of xs
kept_of Bag xs = xs
kept_of Sequence xs = xs

-- more of the list is kept than a collection may hold; or what is kept of the list is kept of these items, which are not many more
abbrev pub IsKeptOf : Bool → Kind → List Value → List Value → Type 0
IsKeptOf true k items all = most < length (kept_of k all)
IsKeptOf false k items all = (kept_of k items ≡ kept_of k all) × (length items ≤ 2 * most)

-- The items of a literal of the kind that were gathered are these: the first invalid one is among those that are held
pub record AreGathered (kind : Kind) (all : List Value) (g : Gathered) : Type 0 where
  pub same_kind : g.kind ≡ kind
  pub invalid : find is_invalid g.items ≡ find is_invalid all
  pub kept : IsKeptOf g.is_full kind g.items all

-- the same before it is seen how many are held
pub record AreAllHeld (kind : Kind) (all : List Value) (g : Gathered) : Type 0 where
  pub same_kind : g.kind ≡ kind
  pub not_full : g.is_full ≡ false
  pub invalid : find is_invalid g.items ≡ find is_invalid all
  pub kept : kept_of kind g.items ≡ kept_of kind all

-- these items were gathered besides
abbrev pub HasMore : List Value → Gathered → Gathered → Type 0
HasMore items before after = (kind : Kind) (all : List Value) → AreGathered kind all before → AreGathered kind (all ++ items) after
