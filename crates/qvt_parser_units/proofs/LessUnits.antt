-- What is read in the loops of units takes a token.
use Rattle.std.proofs.Common.{ℕ, zero, refl, ◌∷◌, []}
use Rattle.qvt_grammar.specs.Reader.{Consumes, made_at, then_at, choose_at}
use Rattle.qvt_language.specs.declared.class.Class.TheVariants.{Comma, Semicolon}
use Rattle.qvt_language.specs.Tokens.{is, code_of}
use Rattle.qvt_language.specs.Readers.{the_at}
use Rattle.qvt_language.specs.Trees.{second, nothing}
use Rattle.qvt_language.specs.UnitTrees.{some_unit}
use Rattle.qvt_language.specs.ReadingUnits.{param_at, feature_at, model_type_at, model_param_at, unit_at}
use Rattle.qvt_language.specs.Nesting.{nested_at}
use Rattle.qvt_language.proofs.Forms.{good_the, good_made, good_then, good_either}
use Rattle.qvt_language.proofs.EveryUnits.{k_param as good_param, k_feature as good_feature, k_unit as good_unit}
use Rattle.qvt_language.proofs.Good.{good_model_type, good_model_param}
use Rattle.qvt_language.proofs.GoodNesting.{consumes, good_same}

pub less_param : (n : ℕ) → Consumes (made_at second (then_at (the_at Comma) (param_at (nested_at n))))
less_param n = consumes (good_made second (good_then (good_the Comma) (good_param (good_same n)) refl))

pub less_feature : (n : ℕ) → Consumes (feature_at (nested_at n))
less_feature n = consumes (good_feature (good_same n))

pub less_model_type : Consumes model_type_at
less_model_type = consumes {n = zero} good_model_type

pub less_model_param : Consumes (made_at second (then_at (the_at Comma) model_param_at))
less_model_param = consumes {n = zero} (good_made second (good_then (good_the Comma) good_model_param refl))

pub less_unit : (n : ℕ) → Consumes (choose_at (is Semicolon) (made_at nothing (the_at Semicolon)) (made_at some_unit (unit_at (nested_at n))))
less_unit n = consumes (good_either (code_of Semicolon ∷ []) (good_made nothing (good_the Semicolon)) (good_made some_unit (good_unit (good_same n))) refl refl)
