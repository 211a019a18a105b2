-- A closed relation holds of every call, over settings of one program.
use Rattle.std.proofs.Common.{ℕ, zero, suc, Bool, Option, Some, None}
use Rattle.qvt_types_data.specs.declared.ty.Ty.{Ty}
use Rattle.qvt_types_nodes.specs.Tree.{TypedExprTerm, TypedOptionalExpr, TypedNoExpr, TypedSomeExpr, TypedStmtTerms}
use Rattle.qvt_types_nodes.specs.Module.{TypedMappingTerm, TypedUnitTerm, TypedHelperOf, TypedConstructorOf, TypedMappingOf}
use Rattle.qvt_types_units.specs.declared.signature.Signature.{Signature}
use Rattle.qvt_types_units.specs.Numbers.{has_context}
use Rattle.qvt_typing.specs.Accepts.{ProgramTerm}
use Rattle.qvt_value.specs.declared.value.Value.{Value}
use Rattle.qvt_run_data.specs.declared.callee.Callee.TheVariants.{HelperCall, ConstructorCall, MappingCall}
use Rattle.qvt_run_rules.specs.Calls.{CallRule}
use Rattle.qvt_meaning.specs.Nodes.{place_of, mappings_named}
use Rattle.qvt_meaning.specs.Program.{unit_term, signature_of, known_class, mapping_unit, numbers}
use Rattle.qvt_meaning.specs.Phrases.{expr}
use Rattle.qvt_meaning.specs.Readings.{Setting}
use Rattle.qvt_meaning.specs.Units as of
use Rattle.qvt_meaning_laws.proofs.Closed.{Relation, Repeated, Closed, Held, held_none, held_some}
use Rattle.qvt_meaning_laws.proofs.Parts.{stops, founds}
use Rattle.qvt_meaning_laws.proofs.Actions.{holds, in_order, block}
use Rattle.qvt_meaning_laws.proofs.Calling.{AlikeCalls, Routines, routines, helper, constructor_}
use Rattle.qvt_meaning_laws.proofs.Making.{Mappings, mappings, mapping}
use Rattle.qvt_meaning_laws.proofs.Naming as naming
use Rattle.qvt_meaning_laws.proofs.Phrasing.{of_expr, of_stmts}

module _ {E F : Type 0} {R : Relation E F} {T : Repeated E F} {x : Setting E} {y : Setting F} (c : Closed E F R T x y) (program : ProgramTerm) where
  abbrev Left : Setting E
  Left = naming.Left c program

  abbrev Right : Setting F
  Right = naming.Right c program

  -- what is known of an expression that is the condition of a loop or the body of a closure, where calls do this
  abbrev pub RepeatsOf : CallRule E → CallRule F → Type 0
  RepeatsOf d d' = (answer : Option Ty) (e : TypedExprTerm) → T (expr Left d answer e) (expr Right d' answer e)

  module _ {d : CallRule E} {d' : CallRule F} (k : AlikeCalls c d d') (repeats : RepeatsOf d d') where
    body_of : (answer : Option Ty) (ss : TypedStmtTerms) → R (Unit {0}) (of.body_of Left d answer ss) (of.body_of Right d' answer ss)
    body_of answer ss = block c (of_stmts c program k repeats answer ss)

    section : (ss : TypedStmtTerms) → R (Unit {0}) (of.section Left d ss) (of.section Right d' ss)
    section ss = in_order c (of_stmts c program k repeats None ss)

    when_of : (e : TypedOptionalExpr) → Held (R Bool) (of.when_of Left d e) (of.when_of Right d' e)
    when_of TypedNoExpr = held_none
    when_of (TypedSomeExpr e) = held_some (holds c (place_of e) (of_expr c program k repeats None e))

    routine_in : (u : Signature) (t : Option TypedUnitTerm) → Held (Routines c) (of.routine_in Left d u t) (of.routine_in Right d' u t)
    routine_in u (Some (TypedHelperOf h)) = held_some (routines (has_context u.context) (of.params_of h.params u.params) (body_of u.answer h.body))
    routine_in u (Some (TypedConstructorOf h)) = held_some (routines (has_context u.context) (of.params_of h.params u.params) (body_of u.answer h.body))
    routine_in u t = held_none

    routine_at : (n : ℕ) → Held (Routines c) (of.routine_at Left d n) (of.routine_at Right d' n)
    unfolding of.routine_at
    routine_at n = routine_in (signature_of program n) (unit_term program n)

    mapping_rule : (n : ℕ) (u : Signature) (m : TypedMappingTerm) → Mappings c (of.mapping_rule Left d n u m) (of.mapping_rule Right d' n u m)
    mapping_rule n u m = mappings (record {
      number = n;
      context = known_class u.context;
      params = of.params_of m.params u.params;
      result = of.result_of m.result_decl;
      inherits = numbers (mappings_named m.inherits);
      merges = numbers (mappings_named m.merges);
      disjuncts = numbers (mappings_named m.disjuncts);
      place = m.place;
    })
        (when_of m.condition) (section m.init) (section m.population) (section m.finish)

    mapping_in : (n : ℕ) (u : Signature) (t : Option TypedUnitTerm) → Held (Mappings c) (of.mapping_in Left d n u t) (of.mapping_in Right d' n u t)
    mapping_in n u (Some (TypedMappingOf m)) = held_some (mapping_rule n u m)
    mapping_in n u t = held_none

    mapping_of : (n : ℕ) (o : Option ℕ) → Held (Mappings c) (of.mapping_of Left d n o) (of.mapping_of Right d' n o)
    mapping_of n None = held_none
    mapping_of n (Some m) = mapping_in n (signature_of program m) (unit_term program m)

    pub mapping_at : (n : ℕ) → Held (Mappings c) (of.mapping_at Left d n) (of.mapping_at Right d' n)
    unfolding of.mapping_at
    mapping_at n = mapping_of n (mapping_unit program n)

    called : AlikeCalls c (of.called Left d) (of.called Right d')
    called (HelperCall n o) vs at = founds c at (routine_at n) (λ h j e. helper c o vs at e)
    called (ConstructorCall n m e) vs at = founds c at (routine_at n) (λ h j k'. constructor_ c m e vs at k')
    called (MappingCall n way o) vs at = founds c at (mapping_at n) (λ m m' e. mapping c mapping_at k way o vs at e)

  -- so many calls may be open
  pub calls_to : ((left : ℕ) → RepeatsOf (of.calls_to Left left) (of.calls_to Right left)) → (left : ℕ) → AlikeCalls c (of.calls_to Left left) (of.calls_to Right left)
  unfolding of.calls_to
  calls_to repeats zero n vs at = stops c Value _
  calls_to repeats (suc left) n vs at = called (calls_to repeats left) (repeats left) n vs at
