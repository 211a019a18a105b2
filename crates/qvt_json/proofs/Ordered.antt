-- The keys of each object that is read ascend.
use Rattle.std.proofs.Common.{◌≡◌, ◌∙◌, ℕ, List, Bool, true, false, Option, Some, None, Ordering, Less, Equal, Greater, refl, ap, subst}
use Rattle.std.specs.Prelude.{⊤, option_and_then, option_map, unwrap_or, if◌then◌else◌}
use Rattle.std.specs.Ordering.{nat_cmp, match_ordering, ordering_reverse}
use Rattle.std.specs.Cmp.Lexicographic.{slice_cmp}
use Rattle.std.specs.Str.{is_utf8}
use Rattle.std.proofs.lemmas.Cmp.{nat_list_cmp_total}
use Rattle.json.specs.Json as json
use Rattle.json.specs.Lex.{tokens}
use Rattle.serde_json.specs.Data.{Data, null, boolean, number, string, array, object, Items, no_items, item, Members, no_members, member, put}
use Rattle.serde_json.specs.Find.{get_member, get, as_object, as_array}
use Rattle.serde_json.specs.Read.{read, of_json, of_items, of_members, number_of, max_depth}
use Rattle.qvt_json.specs.Json as file
use Rattle.qvt_json.specs.Json.{items_or, members_or}
use Rattle.qvt_json.specs.Plain.{KeysAfter}

abbrev mutual
  pub IsOrdered : Data → Type 0
  IsOrdered null = ⊤
  IsOrdered (boolean b) = ⊤
  IsOrdered (number n) = ⊤
  IsOrdered (string s) = ⊤
  IsOrdered (array ds) = ItemsOrdered ds
  IsOrdered (object ms) = MembersOrdered ms

  pub ItemsOrdered : Items → Type 0
  ItemsOrdered no_items = ⊤
  ItemsOrdered (item d ds) = IsOrdered d × ItemsOrdered ds

  pub MembersOrdered : Members → Type 0
  MembersOrdered no_members = ⊤
  MembersOrdered (member k d ms) = KeysAfter k ms × IsOrdered d × MembersOrdered ms

less_of : (a b : List ℕ) → slice_cmp nat_cmp a b ≡ Greater → slice_cmp nat_cmp b a ≡ Less
less_of a b h = nat_list_cmp_total.antisymm b a ∙ ap ordering_reverse h

greater_of : (a b : List ℕ) → slice_cmp nat_cmp a b ≡ Less → slice_cmp nat_cmp b a ≡ Greater
greater_of a b h = nat_list_cmp_total.antisymm b a ∙ ap ordering_reverse h

greater_trans : (a b c : List ℕ) → slice_cmp nat_cmp a b ≡ Greater → slice_cmp nat_cmp b c ≡ Greater → slice_cmp nat_cmp a c ≡ Greater
greater_trans a b c g h = greater_of c a (nat_list_cmp_total.trans c b a (less_of b c h) (less_of a b g))

after_lower : (l k : List ℕ) (ms : Members) → slice_cmp nat_cmp l k ≡ Greater → KeysAfter l ms → KeysAfter k ms
after_lower l k no_members g a = tt
after_lower l k (member x e ms) g a = (greater_trans x l k a.0 g, after_lower l k ms g a.1)

KeysAfter-put : (l k : List ℕ) (d : Data) (ms : Members) → slice_cmp nat_cmp k l ≡ Greater → KeysAfter l ms → KeysAfter l (put k d ms)
KeysAfter-put l k d no_members g a = (g, tt)
KeysAfter-put l k d (member x e ms) g a = by (KeysAfter-put l k d ms g a.1) (slice_cmp nat_cmp k x)
  where
    by : KeysAfter l (put k d ms) → (o : Ordering) → KeysAfter l (match_ordering o (member k d (member x e ms)) (member x d ms) (member x e (put k d ms)))
    by rest Less = (g, a)
    by rest Equal = a
    by rest Greater = (a.0, rest)

MembersOrdered-put : (k : List ℕ) (d : Data) (ms : Members) → IsOrdered d → MembersOrdered ms → MembersOrdered (put k d ms)
MembersOrdered-put k d no_members i a = (tt, i, tt)
MembersOrdered-put k d (member x e ms) i a = by (MembersOrdered-put k d ms i a.2) (slice_cmp nat_cmp k x) refl
  where
    by : MembersOrdered (put k d ms) → (o : Ordering) → slice_cmp nat_cmp k x ≡ o → MembersOrdered (match_ordering o (member k d (member x e ms)) (member x d ms) (member x e (put k d ms)))
    by rest Less is = ((greater_of k x is, after_lower x k ms (greater_of k x is) a.0), i, a)
    by rest Equal is = (a.0, i, a.2)
    by rest Greater is = (KeysAfter-put x k d ms is a.0, a.1, rest)

pub some-injective : {A : Type 0} (x y : A) → Some x ≡ Some y → x ≡ y
some-injective x y e = cc

-- what two steps give, the first of them gives something
pub both-some : {A B : Type 0} (f : A → Option B) (o : Option A) (y : B) → option_and_then f o ≡ Some y → (x : A) × (o ≡ Some x) × (f x ≡ Some y)
both-some f None y e = absurd (cc)
both-some f (Some x) y e = (x, refl, e)

pub map-some : {A B : Type 0} (f : A → B) (o : Option A) (y : B) → option_map f o ≡ Some y → (x : A) × (o ≡ Some x) × (f x ≡ y)
map-some f None y e = absurd (cc)
map-some f (Some x) y e = (x, refl, some-injective (f x) y e)

mutual
  ordered_json : (j : json.Json) (d : Data) → of_json j ≡ Some d → IsOrdered d
  ordered_json json.null d e = subst IsOrdered (some-injective null d e) tt
  ordered_json (json.boolean b) d e = subst IsOrdered (some-injective (boolean b) d e) tt
  ordered_json (json.number s) d e = let p = map-some number (number_of s) d e in subst IsOrdered p.2 tt
  ordered_json (json.string s) d e = subst IsOrdered (some-injective (string s) d e) tt
  ordered_json (json.array js) d e = let p = map-some array (of_items js) d e in subst IsOrdered p.2 (ordered_items js p.0 p.1)
  ordered_json (json.object js) d e = let p = map-some object (of_members js no_members) d e in subst IsOrdered p.2 (ordered_members js no_members p.0 p.1 tt)

  ordered_items : (js : json.Items) (ds : Items) → of_items js ≡ Some ds → ItemsOrdered ds
  ordered_items json.no_items ds e = subst ItemsOrdered (some-injective no_items ds e) tt
  ordered_items (json.item j js) ds e =
      let p = both-some (λ d. option_map (item d) (of_items js)) (of_json j) ds e in
      let q = map-some (item p.0) (of_items js) ds p.2 in
      subst ItemsOrdered q.2 (ordered_json j p.0 p.1, ordered_items js q.0 q.1)

  ordered_members : (js : json.Members) (found ms : Members) → of_members js found ≡ Some ms → MembersOrdered found → MembersOrdered ms
  ordered_members json.no_members found ms e a = subst MembersOrdered (some-injective found ms e) a
  ordered_members (json.member k j js) found ms e a =
      let p = both-some (λ d. of_members js (put k d found)) (of_json j) ms e in
      ordered_members js (put k p.0 found) ms p.2 (MembersOrdered-put k p.0 found (ordered_json j p.0 p.1) a)

pub IsOrdered-json : (bytes : List ℕ) (d : Data) → file.json bytes ≡ Some d → IsOrdered d
IsOrdered-json bytes d e = by (is_utf8 bytes) e
  where
    by : (b : Bool) → (if b then read bytes else None) ≡ Some d → IsOrdered d
    by false e = absurd (cc)
    by true e = let p = both-some of_json (option_and_then (λ p. json.if_last p.0 p.1) (json.value max_depth (tokens bytes))) d e in ordered_json p.0 d p.2

get_member-ordered : (key : List ℕ) (ms : Members) (d : Data) → get_member key ms ≡ Some d → MembersOrdered ms → IsOrdered d
get_member-ordered key no_members d e a = absurd (cc)
get_member-ordered key (member l x ms) d e a = by (λ h. get_member-ordered key ms d h a.2) (slice_cmp nat_cmp key l) e
  where
    by : (get_member key ms ≡ Some d → IsOrdered d) → (o : Ordering) → match_ordering o (get_member key ms) (Some x) (get_member key ms) ≡ Some d → IsOrdered d
    by rest Less e = rest e
    by rest Equal e = subst IsOrdered (some-injective x d e) a.1
    by rest Greater e = rest e

get-ordered : (key : List ℕ) (d x : Data) → get key d ≡ Some x → IsOrdered d → IsOrdered x
get-ordered key null x e a = absurd (cc)
get-ordered key (boolean b) x e a = absurd (cc)
get-ordered key (number n) x e a = absurd (cc)
get-ordered key (string s) x e a = absurd (cc)
get-ordered key (array ds) x e a = absurd (cc)
get-ordered key (object ms) x e a = get_member-ordered key ms x e a

-- the same of what stands at a key
pub members_or-ordered : (key : List ℕ) (d : Data) → IsOrdered d → MembersOrdered (members_or key d)
members_or-ordered key d a = by (get key d) refl
  where
    inside : (x : Data) → IsOrdered x → MembersOrdered (unwrap_or (as_object x) no_members)
    inside null a = tt
    inside (boolean b) a = tt
    inside (number n) a = tt
    inside (string s) a = tt
    inside (array ds) a = tt
    inside (object ms) a = a

    by : (o : Option Data) → get key d ≡ o → MembersOrdered (unwrap_or (option_and_then as_object o) no_members)
    by None e = tt
    by (Some x) e = inside x (get-ordered key d x e a)

pub items_or-ordered : (key : List ℕ) (d : Data) → IsOrdered d → ItemsOrdered (items_or key d)
items_or-ordered key d a = by (get key d) refl
  where
    inside : (x : Data) → IsOrdered x → ItemsOrdered (unwrap_or (as_array x) no_items)
    inside null a = tt
    inside (boolean b) a = tt
    inside (number n) a = tt
    inside (string s) a = tt
    inside (array ds) a = a
    inside (object ms) a = tt

    by : (o : Option Data) → get key d ≡ o → ItemsOrdered (unwrap_or (option_and_then as_array o) no_items)
    by None e = tt
    by (Some x) e = inside x (get-ordered key d x e a)
