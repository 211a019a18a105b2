-- The units of a program as the rules ask for them, and the calls, of which so many may be open (QVT 1.3, 8.2.1.10 to 8.2.1.15).
use Rattle.std.specs.Prelude.{ℕ, zero, suc, Bool, List, [], ◌∷◌, Option, Some, None}
use Rattle.qvt_types_data.specs.declared.note.Reading.{Reading}
use Rattle.qvt_types_data.specs.declared.note.Reading.TheVariants as reading
use Rattle.qvt_types_data.specs.declared.ty.Ty.{Ty}
use Rattle.qvt_types_nodes.specs.Tree.{TypedOptionalExpr, TypedNoExpr, TypedSomeExpr, TypedStmtTerms}
use Rattle.qvt_types_nodes.specs.Module.{TypedMember, TypedHelperTerm, TypedMappingTerm, TypedUnitTerm, TypedHelperOf, TypedConstructorOf, TypedMappingOf}
use Rattle.qvt_types_nodes.specs.declared.module.TypedResultDecl.{TypedResultDecl}
use Rattle.qvt_typing.specs.declared.signature.Signature.{Signature}
use Rattle.qvt_typing.specs.Numbers.{has_context}
use Rattle.qvt_run_data.specs.declared.fault.RunFault.TheVariants as fault
use Rattle.qvt_run_data.specs.declared.exit.End.TheVariants.{Fault}
use Rattle.qvt_run_rules.specs.State.{Does, ◌>>=◌, stop, found}
use Rattle.qvt_run_rules.specs.Statements as statement
use Rattle.qvt_run_data.specs.declared.callee.Callee.TheVariants.{HelperCall, ConstructorCall, MappingCall}
use Rattle.qvt_run_rules.specs.Calls.{CallRule, UnitParam, Routine, helper, constructor_}
use Rattle.qvt_run_rules.specs.Mappings.{ResultClass, MappingRule, mapping}
use Rattle.qvt_meaning.specs.Nodes.{place_of, mappings_named}
use Rattle.qvt_meaning.specs.Program.{unit_term, signature_of, known_class, mapping_unit, numbers}
use Rattle.qvt_meaning.specs.Phrases.{expr, stmts}
use Rattle.qvt_meaning.specs.Readings.{Setting}

-- the parameters by their names, with the types that the signature has
abbrev pub params_of : List TypedMember → List (Option Ty) → List UnitParam
params_of [] ts = []
params_of (m ∷ ms) [] = record { name = m.name; type = None } ∷ params_of ms []
params_of (m ∷ ms) (t ∷ ts) = record { name = m.name; type = t } ∷ params_of ms ts

-- the class of which a mapping makes its result, and the extent in which it makes it
abbrev pub made_in : Reading → Option ResultClass
made_in (reading.Make c e) = Some (record { class = c.0; extent = e })
made_in r = None

abbrev pub result_of : Option TypedResultDecl → Option ResultClass
result_of None = None
result_of (Some d) = made_in d.note.reading

module _ {E : Type 0} (x : Setting E) (calls : CallRule E) where
  -- Helpers, queries and constructors.

  -- the body of a unit, with the type of its answer
  abbrev pub body_of : Option Ty → TypedStmtTerms → Does E (Unit {0})
  body_of answer ss = statement.block (stmts x calls answer ss)

  abbrev pub routine : Signature → TypedHelperTerm → Routine E
  routine u h = record { has_context = has_context u.context; params = params_of h.params u.params; body = body_of u.answer h.body }

  abbrev pub routine_in : Signature → Option TypedUnitTerm → Option (Routine E)
  routine_in u (Some (TypedHelperOf h)) = Some (routine u h)
  routine_in u (Some (TypedConstructorOf h)) = Some (routine u h)
  routine_in u t = None

  unfoldable pub routine_at : ℕ → Option (Routine E)
  routine_at n = routine_in (signature_of x.program n) (unit_term x.program n)

  -- Mappings.

  abbrev pub when_of : TypedOptionalExpr → Option (Does E Bool)
  when_of TypedNoExpr = None
  when_of (TypedSomeExpr e) = Some (statement.holds (expr x calls None e) (place_of e))

  -- what the outermost level of a section declares stays in scope in the next
  abbrev pub section : TypedStmtTerms → Does E (Unit {0})
  section ss = statement.in_order (stmts x calls None ss)

  abbrev pub mapping_rule : ℕ → Signature → TypedMappingTerm → MappingRule E
  mapping_rule k u m = record {
    number = k;
    context = known_class u.context;
    params = params_of m.params u.params;
    result = result_of m.result_decl;
    when = when_of m.condition;
    init = section m.init;
    population = section m.population;
    finish = section m.finish;
    inherits = numbers (mappings_named m.inherits);
    merges = numbers (mappings_named m.merges);
    disjuncts = numbers (mappings_named m.disjuncts);
    place = m.place;
  }

  abbrev pub mapping_in : ℕ → Signature → Option TypedUnitTerm → Option (MappingRule E)
  mapping_in k u (Some (TypedMappingOf m)) = Some (mapping_rule k u m)
  mapping_in k u t = None

  abbrev pub mapping_of : ℕ → Option ℕ → Option (MappingRule E)
  mapping_of k None = None
  mapping_of k (Some n) = mapping_in k (signature_of x.program n) (unit_term x.program n)

  unfoldable pub mapping_at : ℕ → Option (MappingRule E)
  mapping_at k = mapping_of k (mapping_unit x.program k)

  -- Calls.

  abbrev pub called : CallRule E
  called (HelperCall n o) vs at = found (routine_at n) at >>= (λ h. helper h o vs at)
  called (ConstructorCall n c e) vs at = found (routine_at n) at >>= (λ h. constructor_ h c e vs at)
  called (MappingCall k way o) vs at = found (mapping_at k) at >>= (λ m. mapping mapping_at calls m way o vs at)

-- the calls, of which so many may be open inside one another
unfoldable pub calls_to : {E : Type 0} → Setting E → ℕ → CallRule E
calls_to x zero c vs at = stop (Fault fault.CallDepth at)
calls_to x (suc left) c vs at = called x (calls_to x left) c vs at

-- 100 calls of units may be open; `main` is none
abbrev pub all_calls : {E : Type 0} → Setting E → CallRule E
all_calls x = calls_to x 100
