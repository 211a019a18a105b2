-- How many nodes a tree has that is read, what names and texts, and where the nodes stand.
use Rattle.std.proofs.Common.{ℕ, List, [], ◌∷◌, refl, inl, inr}
use Rattle.qvt_tree_types.specs.Module.{MappingTerm, ModuleTerm}
use Rattle.qvt_language.specs.Tokens.{Tok}
use Rattle.qvt_language.specs.declared.class.Class.{Class}
use Rattle.qvt_language.specs.declared.class.Class.TheVariants.{Name, Str}
use Rattle.qvt_language_rows.specs.Lists.{AllOf}
use Rattle.qvt_language_rows.specs.Language.{Reads}
use Rattle.qvt_language_rows.proofs.Every.{every_module}
use Rattle.qvt_parser_nodes.specs.Names.{NameConditions, HasNames}
use Rattle.qvt_parser_nodes.specs.Places.{ClauseKind, Inherits, places}
use Rattle.qvt_parser_nodes.specs.Law.{AtMostTwoEach, IsTextOf, of_tokens, NamesAreTokens, HasAtMost, at_most, NoneIsLonger, PlacesOfTree}
use Rattle.qvt_parser_nodes.proofs.Along.{Along, along_tokens, along_order}
use Rattle.qvt_parser_nodes.proofs.SizeMakers as size
use Rattle.qvt_parser_nodes.proofs.NameMakers as name
use Rattle.qvt_parser_nodes.proofs.PlaceMakers as place

pub at_most_two_each : AtMostTwoEach
at_most_two_each ts m rd = (let every = every_module size.makers rd.nesting in every.all ts m rd.is)

-- its names and texts

abbrev AllTell : NameConditions → List Tok → Type 0
AllTell N ts = AllOf {A = Tok} (name.Tells N) ts

-- what the tokens tell holds of all names and texts
holds : (N : NameConditions) (ts : List Tok) (m : ModuleTerm) → AllTell N ts → Reads ts m → HasNames N m
holds N ts m told rd = (let every = every_module (name.makers N) rd.nesting in every.all ts m told rd.is)

told_self : (ts us : List Tok) → ((c : Class) (x : List ℕ) → IsTextOf c us x → IsTextOf c ts x) → AllTell (of_tokens ts) us
told_self ts [] h = tt
told_self ts (t ∷ us) h = ((λ k. h Name t.text (inl (k, refl)), λ k. h Str t.text (inl (k, refl))), told_self ts us (λ c x k. h c x (inr k)))

pub names_are_tokens : NamesAreTokens
names_are_tokens ts m rd = holds (of_tokens ts) ts m (told_self ts ts (λ c x k. k)) rd

told_short : (n : ℕ) (ts : List Tok) → AllOf {A = Tok} (λ t. HasAtMost n t.text) ts → AllTell (at_most n) ts
told_short n [] h = tt
told_short n (t ∷ ts) h = ((λ k. h.0, λ k. h.0), told_short n ts h.1)

pub none_is_longer : NoneIsLonger
none_is_longer n ts m told rd = holds (at_most n) ts m (told_short n ts told) rd

-- the places of its nodes

pub along : (c : MappingTerm → ClauseKind) (ts : List Tok) (m : ModuleTerm) → Reads ts m → Along (places c m) ts
along c ts m rd = (let every = every_module (place.makers c) rd.nesting in every.all Inherits ts m rd.is)

pub places_of_tree : PlacesOfTree
places_of_tree = record {
  tokens = λ c ts m rd. along_tokens (places c m) ts (along c ts m rd);
  order = λ c ts m rd order. along_order (places c m) ts order (along c ts m rd);
}
