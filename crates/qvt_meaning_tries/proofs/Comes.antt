-- What the small programs come to, computed.
use Rattle.std.specs.Prelude.{refl}
use Rattle.qvt_meaning_tries.specs.Worked.{AnObject, EnoughFuel, TooLittleFuel, Overflows, DividesByZero, StopsAtFalse, NoTurn, NoEnd, AMapping, ALateResolve, ALateCost, ADotOnNull}
use Rattle.qvt_meaning.specs.Run.{finished, main_run, setting}
use Rattle.qvt_meaning.specs.Phrases.{expr, exprs, link, links, map_step, steps, step, dot_step, stmt, stmts, target, late_source}
use Rattle.qvt_meaning.specs.Program.{mapping_unit, chosen_for, form_of}
use Rattle.qvt_meaning.specs.Plain.{answer}
use Rattle.qvt_run_rules.specs.Resolve.{late}
use Rattle.qvt_meaning.specs.Units.{mapping_at, calls_to}
use Rattle.qvt_run_rules.specs.Cost.{charge}
use Rattle.qvt_run_rules.specs.Locals.{read, scoped, inside, in_frame, in_own}
use Rattle.qvt_run_rules.specs.State.{caught}
use Rattle.qvt_run_rules.specs.Calls.{frame, call_step}
use Rattle.qvt_run_rules.specs.Trace.{same_key, candidates}
use Rattle.qvt_run_rules.specs.Mappings.{with_key, note, once, first, first_inside, sections, body, made as made_by, chosen as chosen_on, called as called_by, mapping}
use Rattle.qvt_run_rules.specs.Logic.{logic, by_left}
use Rattle.qvt_run_rules.specs.Store.{new_object, put}
use Rattle.qvt_run_rules.specs.Expressions.{literal, variable, on_first, conditional, operated, logical, called}
use Rattle.qvt_run_rules.specs.Statements.{statement, discard, object, on_object, inner_target, member_target, assign_property, block, loop, turn}
use Rattle.qvt_metamodel.specs.Metamodels.{features_of}
use Rattle.qvt_relation.specs.Closure.{reaches_by}
use Rattle.qvt_types_units.specs.Choice.{chosen as choice}
use Rattle.qvt_ocl_words.specs.Operation.{operation, answered, on_valid, unless_null, on_present, on_integer, compared}
use Rattle.qvt_ocl_words.specs.Integers.{of_integers}
use Rattle.qvt_value.specs.Limits.{limited}
use Rattle.qvt_types_steps.specs.Classes.{class_test_named}
use Rattle.qvt_types_words.specs.OperationNames.{of_any, of_numbers}

pub less : TooLittleFuel
unfolding finished main_run setting expr stmt stmts target late_source charge scoped inside new_object put literal statement discard object on_object inner_target assign_property block features_of reaches_by
less = refl

pub made : AnObject
unfolding finished main_run setting expr stmt stmts target late_source charge scoped inside new_object put literal statement discard object on_object inner_target assign_property block features_of reaches_by
made = refl

pub enough : EnoughFuel
unfolding finished main_run setting expr stmt stmts target late_source charge scoped inside new_object put literal statement discard object on_object inner_target assign_property block features_of reaches_by
enough = refl

pub sign : Overflows
unfolding finished main_run setting expr stmt stmts target late_source charge scoped inside new_object put literal statement discard object on_object inner_target assign_property block features_of reaches_by on_first links link operated logical conditional logic by_left operation answered on_valid unless_null on_present on_integer of_integers compared limited
sign = refl

pub step_at : DividesByZero
unfolding finished main_run setting expr stmt stmts target late_source charge scoped inside new_object put literal statement discard object on_object inner_target assign_property block features_of reaches_by on_first steps step dot_step exprs called operation answered on_valid unless_null on_present on_integer of_integers limited class_test_named of_any of_numbers
step_at = refl

pub stops : StopsAtFalse
unfolding finished main_run setting expr stmt stmts target late_source charge scoped inside new_object put literal statement discard object on_object inner_target assign_property block features_of reaches_by on_first links link operated logical conditional logic by_left operation answered on_valid unless_null on_present on_integer of_integers compared limited steps step dot_step exprs called class_test_named of_any of_numbers
stops = refl

pub no_turn : NoTurn
unfolding finished main_run setting expr stmt stmts target late_source charge scoped inside new_object put literal statement discard object on_object inner_target assign_property block features_of reaches_by loop turn
no_turn = refl

pub no_end : NoEnd
unfolding finished main_run setting expr stmt stmts target late_source charge scoped inside new_object put literal statement discard object on_object inner_target assign_property block features_of reaches_by loop turn
no_end = refl

pub a_mapping : AMapping
unfolding finished main_run setting expr stmt stmts target late_source charge scoped inside new_object put literal statement discard object on_object inner_target assign_property block features_of reaches_by on_first steps step map_step exprs variable read call_step chosen_for mapping_unit choice calls_to mapping_at mapping frame called_by once first first_inside caught with_key note in_own in_frame sections body made_by chosen_on member_target same_key
a_mapping = refl

pub late_slot : ALateResolve
unfolding finished main_run setting expr stmt stmts target late_source charge scoped inside new_object put literal statement discard object on_object inner_target assign_property block features_of reaches_by on_first steps step map_step exprs variable read call_step chosen_for mapping_unit choice calls_to mapping_at mapping frame called_by once first first_inside caught with_key note in_own in_frame sections body made_by chosen_on member_target same_key late answer candidates form_of
late_slot = refl

pub late_cost : ALateCost
unfolding finished main_run setting expr stmt stmts target late_source charge scoped inside new_object put literal statement discard object on_object inner_target assign_property block features_of reaches_by on_first steps step map_step exprs variable read call_step chosen_for mapping_unit choice calls_to mapping_at mapping frame called_by once first first_inside caught with_key note in_own in_frame sections body made_by chosen_on member_target same_key late answer candidates form_of
late_cost = refl

pub dot_on_null : ADotOnNull
dot_on_null s f = refl
