-- Sets of classes: with what something begins, and with what it may go on.
use Rattle.std.specs.Prelude.{ℕ, List, [], ◌∷◌}
use Rattle.qvt_language.specs.Tokens.{code_of}
use Rattle.qvt_words.specs.declared.class.Class.TheVariants.{Name, Integer, Str, OpenRound, Semicolon, Colon, DoubleColon, Dot, Arrow, Bar, EqualSign, DoubleEqual, Diamond, BangEqual, LessSign, AtMost, GreaterSign, AtLeast, PlusSign, MinusSign, Star, Becomes, PlusEqual, AndWord, BagWord, ConstructorWord, DisjunctsWord, FalseWord, HelperWord, IfWord, ImpliesWord, InheritsWord, IntermediateWord, InvResolveWord, InvResolveInWord, InvResolveOneWord, InvResolveOneInWord, LateWord, MainWord, MapWord, MappingWord, MergesWord, NewWord, NotWord, NullWord, ObjectWord, OrWord, OrderedSetWord, QueryWord, ResolveAllWord, ResolveInWord, ResolveOneWord, ResolveOneInWord, ResultWord, ReturnWord, SelfWord, SequenceWord, SetWord, TrueWord, VarWord, WhenWord, WhileWord, XmapWord, XorWord}

abbrev pub kind_first : List ℕ
kind_first = code_of BagWord ∷ code_of OrderedSetWord ∷ code_of SequenceWord ∷ code_of SetWord ∷ []

abbrev pub map_first : List ℕ
map_first = code_of MapWord ∷ code_of XmapWord ∷ []

abbrev pub all_first : List ℕ
all_first = code_of InvResolveWord ∷ code_of InvResolveOneWord ∷ code_of ResolveAllWord ∷ code_of ResolveOneWord ∷ []

abbrev pub resolve_first : List ℕ
resolve_first = code_of InvResolveWord ∷ code_of InvResolveInWord ∷ code_of InvResolveOneWord ∷ code_of InvResolveOneInWord ∷ code_of LateWord ∷ code_of ResolveAllWord ∷ code_of ResolveInWord ∷ code_of ResolveOneWord ∷ code_of ResolveOneInWord ∷ []

abbrev pub literal_first : List ℕ
literal_first = code_of Integer ∷ code_of Str ∷ code_of FalseWord ∷ code_of TrueWord ∷ []

abbrev pub word_first : List ℕ
word_first = code_of NullWord ∷ code_of ResultWord ∷ code_of SelfWord ∷ []

abbrev pub late_first : List ℕ
late_first = code_of InvResolveInWord ∷ code_of InvResolveOneInWord ∷ code_of LateWord ∷ code_of ResolveInWord ∷ code_of ResolveOneInWord ∷ []

abbrev pub maker_first : List ℕ
maker_first = code_of BagWord ∷ code_of MapWord ∷ code_of NewWord ∷ code_of ObjectWord ∷ code_of OrderedSetWord ∷ code_of SequenceWord ∷ code_of SetWord ∷ code_of XmapWord ∷ []

abbrev pub plain_first : List ℕ
plain_first = code_of Name ∷ code_of OpenRound ∷ code_of NullWord ∷ code_of ResultWord ∷ code_of SelfWord ∷ []

abbrev pub front_first : List ℕ
front_first = code_of MinusSign ∷ code_of IfWord ∷ code_of NotWord ∷ []

abbrev pub simple_first : List ℕ
simple_first = code_of Semicolon ∷ code_of ReturnWord ∷ code_of VarWord ∷ code_of WhileWord ∷ []

abbrev pub primary_first : List ℕ
primary_first = code_of Name ∷ code_of Integer ∷ code_of Str ∷ code_of OpenRound ∷ code_of BagWord ∷ code_of FalseWord ∷ code_of InvResolveWord ∷ code_of InvResolveInWord ∷ code_of InvResolveOneWord ∷ code_of InvResolveOneInWord ∷ code_of LateWord ∷ code_of MapWord ∷ code_of NewWord ∷ code_of NullWord ∷ code_of ObjectWord ∷ code_of OrderedSetWord ∷ code_of ResolveAllWord ∷ code_of ResolveInWord ∷ code_of ResolveOneWord ∷ code_of ResolveOneInWord ∷ code_of ResultWord ∷ code_of SelfWord ∷ code_of SequenceWord ∷ code_of SetWord ∷ code_of TrueWord ∷ code_of XmapWord ∷ []

abbrev pub expr_first : List ℕ
expr_first = code_of Name ∷ code_of Integer ∷ code_of Str ∷ code_of OpenRound ∷ code_of MinusSign ∷ code_of BagWord ∷ code_of FalseWord ∷ code_of IfWord ∷ code_of InvResolveWord ∷ code_of InvResolveInWord ∷ code_of InvResolveOneWord ∷ code_of InvResolveOneInWord ∷ code_of LateWord ∷ code_of MapWord ∷ code_of NewWord ∷ code_of NotWord ∷ code_of NullWord ∷ code_of ObjectWord ∷ code_of OrderedSetWord ∷ code_of ResolveAllWord ∷ code_of ResolveInWord ∷ code_of ResolveOneWord ∷ code_of ResolveOneInWord ∷ code_of ResultWord ∷ code_of SelfWord ∷ code_of SequenceWord ∷ code_of SetWord ∷ code_of TrueWord ∷ code_of XmapWord ∷ []

abbrev pub post_next : List ℕ
post_next = code_of OpenRound ∷ code_of DoubleColon ∷ code_of Dot ∷ code_of Arrow ∷ []

abbrev pub expr_next : List ℕ
expr_next = code_of OpenRound ∷ code_of DoubleColon ∷ code_of Dot ∷ code_of Arrow ∷ code_of EqualSign ∷ code_of DoubleEqual ∷ code_of Diamond ∷ code_of BangEqual ∷ code_of LessSign ∷ code_of AtMost ∷ code_of GreaterSign ∷ code_of AtLeast ∷ code_of PlusSign ∷ code_of MinusSign ∷ code_of Star ∷ code_of AndWord ∷ code_of ImpliesWord ∷ code_of OrWord ∷ code_of XorWord ∷ []

abbrev pub head_first : List ℕ
head_first = code_of Semicolon ∷ code_of Colon ∷ code_of Bar ∷ []

abbrev pub step_first : List ℕ
step_first = code_of Dot ∷ code_of Arrow ∷ []

abbrev pub sign_first : List ℕ
sign_first = code_of MinusSign ∷ code_of NotWord ∷ []

abbrev pub stmt_first : List ℕ
stmt_first = code_of Name ∷ code_of Integer ∷ code_of Str ∷ code_of OpenRound ∷ code_of Semicolon ∷ code_of MinusSign ∷ code_of BagWord ∷ code_of FalseWord ∷ code_of IfWord ∷ code_of InvResolveWord ∷ code_of InvResolveInWord ∷ code_of InvResolveOneWord ∷ code_of InvResolveOneInWord ∷ code_of LateWord ∷ code_of MapWord ∷ code_of NewWord ∷ code_of NotWord ∷ code_of NullWord ∷ code_of ObjectWord ∷ code_of OrderedSetWord ∷ code_of ResolveAllWord ∷ code_of ResolveInWord ∷ code_of ResolveOneWord ∷ code_of ResolveOneInWord ∷ code_of ResultWord ∷ code_of ReturnWord ∷ code_of SelfWord ∷ code_of SequenceWord ∷ code_of SetWord ∷ code_of TrueWord ∷ code_of VarWord ∷ code_of WhileWord ∷ code_of XmapWord ∷ []

abbrev pub assign_first : List ℕ
assign_first = code_of Becomes ∷ code_of PlusEqual ∷ []

abbrev pub clause_first : List ℕ
clause_first = code_of DisjunctsWord ∷ code_of InheritsWord ∷ code_of MergesWord ∷ code_of WhenWord ∷ []

abbrev pub unit_first : List ℕ
unit_first = code_of Semicolon ∷ code_of ConstructorWord ∷ code_of HelperWord ∷ code_of IntermediateWord ∷ code_of MainWord ∷ code_of MappingWord ∷ code_of QueryWord ∷ []
