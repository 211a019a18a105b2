-- What the steps that are called by name with a class ask: tests and casts of objects (OCL 2.4, 11.3.3), and the operations of models
-- (QVT 1.3, 8.3.4).
use Rattle.std.specs.Prelude.{ℕ, Option, Some, None}
use Rattle.qvt_types_steps.specs.declared.classes.ClassTest.{ClassTest}
use Rattle.qvt_types_steps.specs.declared.classes.ClassTest.TheVariants as class_test
use Rattle.qvt_types_steps.specs.declared.classes.ModelCall.{ModelCall}
use Rattle.qvt_types_steps.specs.declared.classes.ModelCall.TheVariants as model_call
use Rattle.qvt_run_data.specs.declared.questions.ObjectTest.{ObjectTest}
use Rattle.qvt_run_data.specs.declared.questions.ObjectTest.TheVariants.{IsKindOf, IsTypeOf, AsType}
use Rattle.qvt_run_data.specs.declared.questions.ModelQuery.{ModelQuery}
use Rattle.qvt_run_data.specs.declared.questions.ModelQuery.TheVariants.{Objects, RootObjects, ObjectsOfType}

abbrev pub object_test : ClassTest → ObjectTest
object_test class_test.IsKindOf = IsKindOf
object_test class_test.IsTypeOf = IsTypeOf
object_test class_test.AsType = AsType

abbrev pub model_query : ModelCall → Option ℕ → Option ModelQuery
model_query model_call.Objects c = Some Objects
model_query model_call.RootObjects c = Some RootObjects
model_query model_call.ObjectsOfType None = None
model_query model_call.ObjectsOfType (Some c) = Some (ObjectsOfType c)

abbrev pub named_query : Option ModelCall → Option ℕ → Option ModelQuery
named_query None c = None
named_query (Some q) c = model_query q c
