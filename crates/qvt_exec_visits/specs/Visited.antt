-- The closure as a machine (OCL 2.4, 11.9.2): how far it has come, what is done with an item, and what it does from there on.
use Rattle.std.specs.Prelude.{◌≡◌, ℕ, true, false, if◌then◌else◌, List, [], ◌∷◌, ◌++◌, Option, Some, None, Result, Ok, Err}
use Rattle.qvt_base.specs.declared.numbers.Place.{Place}
use Rattle.qvt_value.specs.declared.value.Value.{Value}
use Rattle.qvt_value.specs.declared.value.Kind.{Kind}
use Rattle.qvt_value.specs.Make.{is_invalid}
use Rattle.qvt_ocl_words.specs.Lists.{has}
use Rattle.qvt_run_data.specs.declared.exit.Halt.{Halt}
use Rattle.qvt_run_data.specs.declared.exit.Halt.TheVariants.{Exits, NoMemory}
use Rattle.qvt_run_rules.specs.State.{Does}
use Rattle.qvt_run_rules.specs.Sources.{items_of, present_items}
use Rattle.qvt_run_rules.specs.Iterators.{closure_from, unvisited}

-- the kind of the source, the items that were visited in their order, and the items that are left, the next one first: some of these may
-- have been visited too
pub record Visited : Type 0 where
  pub kind : Kind
  pub done : List Value
  pub left : List Value

-- before the first item of a collection of the kind
abbrev pub begun : Kind → List Value → Visited
begun k xs = record { kind = k; done = []; left = xs }

-- the item comes last, unless it is there
abbrev pub with_item : List Value → Value → List Value
with_item done x = if has done x then done else done ++ x ∷ []

-- an item is visited, whose body has the value: the objects of that come before the items that were left
abbrev pub visited : Visited → Value → Value → Visited
visited v x w = record { kind = v.kind; done = with_item v.done x; left = present_items (items_of w) ++ v.left }

-- an item, if there is one, and those behind it
abbrev pub before_rest : Option Value → List Value → List Value
before_rest None xs = []
before_rest (Some x) xs = x ∷ xs

-- the next item that was not visited is taken off, with those before it; or there is none
pub record IsNextItem (v : Visited) (o : Option Value) (w : Visited) : Type 0 where
  pub kind : w.kind ≡ v.kind
  pub done : w.done ≡ v.done
  pub left : unvisited v.done v.left ≡ before_rest o w.left

-- what becomes of an item with the value of the body for it: a value that is invalid ends the closure, and else the item is visited
abbrev pub TakesBodyValue : Visited → Value → Value → Option Value → Visited → Type 0
TakesBodyValue v x w None t = (is_invalid w ≡ false) × (t ≡ visited v x w)
TakesBodyValue v x w (Some u) t = (is_invalid w ≡ true) × (u ≡ w)

-- the call gives this, or there was no memory
abbrev pub GivesVisited : {A : Type 0} → A → Result A Halt → Type 0
GivesVisited a (Ok b) = b ≡ a
GivesVisited a (Err NoMemory) = Unit {0}
GivesVisited a (Err (Exits e)) = ⊥

-- what a closure that has come so far does from there on, where at most so many bodies are evaluated
abbrev pub rest_of : {E : Type 0} → Place → (Value → Does E Value) → ℕ → Visited → Does E Value
rest_of at f n v = closure_from at f n v.kind v.done (unvisited v.done v.left)
