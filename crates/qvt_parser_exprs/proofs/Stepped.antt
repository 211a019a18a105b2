-- Steps that join the steps before them, and steps after an expression that ends in none.
use Rattle.std.proofs.Common.{◌≡◌, Some, None, unwrap_or, List, [], ◌∷◌, ◌++◌, map, refl, sym, ap, ◌∙◌, Result, Ok, Err}
use Rattle.std.proofs.lemmas.List.{map-append}
use Rattle.qvt_base.specs.declared.numbers.Place.{Place}
use Rattle.qvt_tree_types.specs.Tree.{ExprTerm, IntExpr, StrExpr, BoolExpr, NullExpr, SelfExpr, ResultExpr, PathExpr, CallExpr, CollExpr, IfExpr, ObjectExpr, NewExpr, MapExpr, ResolveExpr, ChainExpr, PrefixExpr, PostExpr, StepTerm, StepTerms, MoreSteps}
use Rattle.qvt_tree_types.specs.View.{step_view, steps_of}
use Rattle.qvt_tree_types.specs.declared.tree.Step.{Step}
use Rattle.qvt_parser_grammar.specs.declared.cursor.ParseError.{ParseError}
use Rattle.qvt_parser_grammar.specs.declared.cursor.ParseError.TheVariants.{NoMemory, Syntax}
use Rattle.qvt_parser_grammar.specs.Gives.{Makes, same}
use Rattle.qvt_language.specs.Trees.{more_steps, stepped}
use Rattle.qvt_tree_types.specs.Parts.{post_in}

more_of : (xs ys : List StepTerm) → more_steps (steps_of xs) ys ≡ steps_of (xs ++ ys)
more_of [] ys = refl
more_of (x ∷ xs) ys = ap (MoreSteps x) (more_of xs ys)

pub joined_steps : (old more new : List Step) → new ≡ old ++ more → steps_of (map step_view new) ≡ more_steps (steps_of (map step_view old)) (map step_view more)
joined_steps old more new e = ap steps_of (ap (map step_view) e ∙ map-append step_view old more) ∙ sym (more_of (map step_view old) (map step_view more))

pub makes_steps : (old more : List Step) (r : Result (List Step) ParseError) → Makes same r (old ++ more) → Makes (λ s. steps_of (map step_view s)) r (more_steps (steps_of (map step_view old)) (map step_view more))
makes_steps old more (Ok new) e = joined_steps old more new e
makes_steps old more (Err NoMemory) e = tt
makes_steps old more (Err Syntax) e = e

-- an expression without steps gets these as its own
pub stepped_apart : (place : Place) (e : ExprTerm) (ss : List StepTerm) → post_in e ≡ None → stepped place e ss ≡ PostExpr e (steps_of ss) place
stepped_apart place (IntExpr n p) ss h = refl
stepped_apart place (StrExpr t p) ss h = refl
stepped_apart place (BoolExpr b p) ss h = refl
stepped_apart place (NullExpr p) ss h = refl
stepped_apart place (SelfExpr p) ss h = refl
stepped_apart place (ResultExpr p) ss h = refl
stepped_apart place (PathExpr path) ss h = refl
stepped_apart place (CallExpr name es p) ss h = refl
stepped_apart place (CollExpr k es p) ss h = refl
stepped_apart place (IfExpr c a b p) ss h = refl
stepped_apart place (ObjectExpr v path x body p) ss h = refl
stepped_apart place (NewExpr path x es p) ss h = refl
stepped_apart place (MapExpr m) ss h = refl
stepped_apart place (ResolveExpr r) ss h = refl
stepped_apart place (ChainExpr l e ls p) ss h = refl
stepped_apart place (PrefixExpr signs e p) ss h = refl
stepped_apart place (PostExpr e old p) ss h = absurd cc

-- one with steps gets them after its own
pub stepped_more : (place : Place) (e : ExprTerm) (first : ExprTerm) (old : StepTerms) (ss : List StepTerm) → post_in e ≡ Some (first, old) → stepped place e ss ≡ PostExpr first (more_steps old ss) place
stepped_more place (IntExpr n p) first old ss h = absurd cc
stepped_more place (StrExpr t p) first old ss h = absurd cc
stepped_more place (BoolExpr b p) first old ss h = absurd cc
stepped_more place (NullExpr p) first old ss h = absurd cc
stepped_more place (SelfExpr p) first old ss h = absurd cc
stepped_more place (ResultExpr p) first old ss h = absurd cc
stepped_more place (PathExpr path) first old ss h = absurd cc
stepped_more place (CallExpr name es p) first old ss h = absurd cc
stepped_more place (CollExpr k es p) first old ss h = absurd cc
stepped_more place (IfExpr c a b p) first old ss h = absurd cc
stepped_more place (ObjectExpr v path x body p) first old ss h = absurd cc
stepped_more place (NewExpr path x es p) first old ss h = absurd cc
stepped_more place (MapExpr m) first old ss h = absurd cc
stepped_more place (ResolveExpr r) first old ss h = absurd cc
stepped_more place (ChainExpr l e ls p) first old ss h = absurd cc
stepped_more place (PrefixExpr signs e p) first old ss h = absurd cc
stepped_more place (PostExpr e more p) first old ss h = ap (λ o. PostExpr (unwrap_or {T = ExprTerm × StepTerms} o (e, more)).0 (more_steps (unwrap_or {T = ExprTerm × StepTerms} o (e, more)).1 ss) place) h
