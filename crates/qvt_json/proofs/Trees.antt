-- A plain value is what the tree of its text stands for.
use Rattle.std.proofs.Common.{◌≡◌, ℕ, pos, negsuc, List, Some, Greater, refl, ap, ◌∙◌, arith}
use Rattle.std.specs.Prelude.{⊤, max, suc}
use Rattle.std.specs.Ordering.{nat_cmp}
use Rattle.std.specs.Cmp.Lexicographic.{slice_cmp}
use Rattle.json.specs.Json as json
use Rattle.json.specs.Tree as tree
use Rattle.json.proofs.Printed.Decimals.{IsNumber-decimal, IsNumber-signed_decimal}
use Rattle.serde_json.specs.Data.{Num, unsigned, negative, float, Data, null, boolean, number, string, array, object, Items, no_items, item, Members, no_members, member, put, depth, items_depth, members_depth}
use Rattle.serde_json.specs.Read.{of_json, of_items, of_members, number_of}
use Rattle.serde_json.specs.Written.{outline, items_outline, members_outline, number_text}
use Rattle.serde_json.proofs.Numbers.{number_of-decimal, number_of-negative}
use Rattle.qvt_json.specs.Plain.{IsInteger, KeysAfter, IsPlain, ItemsPlain, MembersPlain}

number_back : (n : Num) → IsInteger n → number_of (number_text n) ≡ Some n
number_back (unsigned n) h = number_of-decimal n h
number_back (negative (pos n)) h = absurd h
number_back (negative (negsuc n)) h = number_of-negative n h
number_back (float x) h = absurd h

-- the members of the second object put last in the first
abbrev joined : Members → Members → Members
joined no_members ns = ns
joined (member k d ms) ns = member k d (joined ms ns)

-- k comes after each of these keys
abbrev IsAfterAll : List ℕ → Members → Type 0
IsAfterAll k no_members = ⊤
IsAfterAll k (member l d ms) = (slice_cmp nat_cmp k l ≡ Greater) × IsAfterAll k ms

abbrev ComeAfter : Members → Members → Type 0
ComeAfter front no_members = ⊤
ComeAfter front (member k d ms) = IsAfterAll k front × ComeAfter front ms

put-last : (k : List ℕ) (d : Data) (front : Members) → IsAfterAll k front → put k d front ≡ joined front (member k d no_members)
put-last k d no_members h = refl
put-last k d (member l e ms) h = rw h.0 (ap (member l e) (put-last k d ms h.1))

joined-assoc : (front : Members) (k : List ℕ) (d : Data) (ms : Members) → joined (joined front (member k d no_members)) ms ≡ joined front (member k d ms)
joined-assoc no_members k d ms = refl
joined-assoc (member l e front) k d ms = ap (member l e) (joined-assoc front k d ms)

joined-none : (ms : Members) → ms ≡ joined ms no_members
joined-none no_members = refl
joined-none (member k d ms) = ap (member k d) (joined-none ms)

after_one_more : (x k : List ℕ) (d : Data) (front : Members) → slice_cmp nat_cmp x k ≡ Greater → IsAfterAll x front → IsAfterAll x (joined front (member k d no_members))
after_one_more x k d no_members g h = (g, tt)
after_one_more x k d (member l e front) g h = (h.0, after_one_more x k d front g h.1)

all_after_one_more : (k : List ℕ) (d : Data) (front ms : Members) → KeysAfter k ms → ComeAfter front ms → ComeAfter (joined front (member k d no_members)) ms
all_after_one_more k d front no_members a h = tt
all_after_one_more k d front (member x e ms) a h = (after_one_more x k d front a.0 h.0, all_after_one_more k d front ms a.1 h.1)

after_none : (ms : Members) → ComeAfter no_members ms
after_none no_members = tt
after_none (member k d ms) = (tt, after_none ms)

mutual
  pub of_json-outline : (d : Data) → IsPlain d → of_json (outline d) ≡ Some d
  of_json-outline null h = refl
  of_json-outline (boolean b) h = refl
  of_json-outline (number n) h = rw (number_back n h)
  of_json-outline (string s) h = refl
  of_json-outline (array ds) h = rw (of_items-outline ds h)
  of_json-outline (object ms) h = rw (of_members-outline no_members ms (after_none ms) h)

  of_items-outline : (ds : Items) → ItemsPlain ds → of_items (items_outline ds) ≡ Some ds
  of_items-outline no_items h = refl
  of_items-outline (item d ds) h = rw (of_json-outline d h.0, of_items-outline ds h.1)

  of_members-outline : (front ms : Members) → ComeAfter front ms → MembersPlain ms → of_members (members_outline ms) front ≡ Some (joined front ms)
  of_members-outline front no_members a h = ap Some (joined-none front)
  of_members-outline front (member k d ms) a h =
      rw (of_json-outline d h.1, put-last k d front a.0)
      (of_members-outline (joined front (member k d no_members)) ms (all_after_one_more k d front ms h.2 a.1) h.3 ∙ ap Some (joined-assoc front k d ms))

mutual
  pub depth-outline : (d : Data) → tree.depth (outline d) ≡ depth d
  depth-outline null = refl
  depth-outline (boolean b) = refl
  depth-outline (number n) = refl
  depth-outline (string s) = refl
  depth-outline (array ds) = ap suc (items_depth-outline ds)
  depth-outline (object ms) = ap suc (members_depth-outline ms)

  items_depth-outline : (ds : Items) → tree.items_depth (items_outline ds) ≡ items_depth ds
  items_depth-outline no_items = refl
  items_depth-outline (item d ds) = λ i. max (depth-outline d i) (items_depth-outline ds i)

  members_depth-outline : (ms : Members) → tree.members_depth (members_outline ms) ≡ members_depth ms
  members_depth-outline no_members = refl
  members_depth-outline (member k d ms) = λ i. max (depth-outline d i) (members_depth-outline ms i)

is_number : (n : Num) → IsInteger n → tree.HasNumbers (json.number (number_text n))
is_number (unsigned n) h = IsNumber-decimal n h
is_number (negative (pos n)) h = absurd h
is_number (negative (negsuc n)) h = IsNumber-signed_decimal (negsuc n) (omega arith)
is_number (float x) h = absurd h

mutual
  pub HasNumbers-outline : (d : Data) → IsPlain d → tree.HasNumbers (outline d)
  HasNumbers-outline null h = tt
  HasNumbers-outline (boolean b) h = tt
  HasNumbers-outline (number n) h = is_number n h
  HasNumbers-outline (string s) h = tt
  HasNumbers-outline (array ds) h = items_have_numbers ds h
  HasNumbers-outline (object ms) h = members_have_numbers ms h

  items_have_numbers : (ds : Items) → ItemsPlain ds → tree.ItemsHaveNumbers (items_outline ds)
  items_have_numbers no_items h = tt
  items_have_numbers (item d ds) h = (HasNumbers-outline d h.0, items_have_numbers ds h.1)

  members_have_numbers : (ms : Members) → MembersPlain ms → tree.MembersHaveNumbers (members_outline ms)
  members_have_numbers no_members h = tt
  members_have_numbers (member k d ms) h = (HasNumbers-outline d h.1, members_have_numbers ms h.3)
