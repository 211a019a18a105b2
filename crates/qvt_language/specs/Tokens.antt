-- Tokens as plain data, and sets of classes.
use Rattle.std.specs.Prelude.{ℕ, ℤ, Bool, true, false, ◌||◌, nat_eq, List, [], ◌∷◌, map}
use Rattle.qvt_base.specs.declared.numbers.Place.{Place}
use Rattle.qvt_words.specs.declared.class.Class.{Class}
use Rattle.qvt_words.specs.declared.class.Class.TheVariants.{Name, Integer, Str, OpenRound, CloseRound, OpenBrace, CloseBrace, Comma, Semicolon, Colon, DoubleColon, Dot, DotDot, Arrow, Bar, AtSign, EqualSign, DoubleEqual, Diamond, BangEqual, LessSign, AtMost, GreaterSign, AtLeast, PlusSign, MinusSign, Star, Becomes, PlusEqual, AndWord, BagWord, ClassWord, ConstructorWord, DisjunctsWord, ElifWord, ElseWord, EndWord, EndifWord, ExtendsWord, FalseWord, ForEachWord, HelperWord, IfWord, ImpliesWord, ImportWord, InWord, InheritsWord, InitWord, InoutWord, IntermediateWord, InvResolveWord, InvResolveInWord, InvResolveOneWord, InvResolveOneInWord, LateWord, LibraryWord, MainWord, MapWord, MappingWord, MergesWord, ModelTypeWord, NewWord, NotWord, NullWord, ObjectWord, OrWord, OrderedSetWord, OutWord, PopulationWord, QueryWord, ResolveAllWord, ResolveInWord, ResolveOneWord, ResolveOneInWord, ResultWord, ReturnWord, SelfWord, SequenceWord, SetWord, ThenWord, TransformationWord, TrueWord, UsesWord, VarWord, WhenWord, WhileWord, XmapWord, XorWord}
use Rattle.qvt_language.specs.declared.token.SyntaxToken.{SyntaxToken}

pub record Tok : Type 0 where
  pub class : Class
  pub text : List ℕ
  pub number : ℤ
  pub place : Place

abbrev pub tok_of : SyntaxToken → Tok
tok_of t = record { class = t.class; text = t.text.now; number = t.number; place = t.place }

abbrev pub toks_of : List SyntaxToken → List Tok
toks_of = map tok_of

abbrev pub code_of : Class → ℕ
code_of Name = 0
code_of Integer = 1
code_of Str = 2
code_of OpenRound = 3
code_of CloseRound = 4
code_of OpenBrace = 5
code_of CloseBrace = 6
code_of Comma = 7
code_of Semicolon = 8
code_of Colon = 9
code_of DoubleColon = 10
code_of Dot = 11
code_of DotDot = 12
code_of Arrow = 13
code_of Bar = 14
code_of AtSign = 15
code_of EqualSign = 16
code_of DoubleEqual = 17
code_of Diamond = 18
code_of BangEqual = 19
code_of LessSign = 20
code_of AtMost = 21
code_of GreaterSign = 22
code_of AtLeast = 23
code_of PlusSign = 24
code_of MinusSign = 25
code_of Star = 26
code_of Becomes = 27
code_of PlusEqual = 28
code_of AndWord = 29
code_of BagWord = 30
code_of ClassWord = 31
code_of ConstructorWord = 32
code_of DisjunctsWord = 33
code_of ElifWord = 34
code_of ElseWord = 35
code_of EndWord = 36
code_of EndifWord = 37
code_of ExtendsWord = 38
code_of FalseWord = 39
code_of ForEachWord = 40
code_of HelperWord = 41
code_of IfWord = 42
code_of ImpliesWord = 43
code_of ImportWord = 44
code_of InWord = 45
code_of InheritsWord = 46
code_of InitWord = 47
code_of InoutWord = 48
code_of IntermediateWord = 49
code_of InvResolveWord = 50
code_of InvResolveInWord = 51
code_of InvResolveOneWord = 52
code_of InvResolveOneInWord = 53
code_of LateWord = 54
code_of LibraryWord = 55
code_of MainWord = 56
code_of MapWord = 57
code_of MappingWord = 58
code_of MergesWord = 59
code_of ModelTypeWord = 60
code_of NewWord = 61
code_of NotWord = 62
code_of NullWord = 63
code_of ObjectWord = 64
code_of OrWord = 65
code_of OrderedSetWord = 66
code_of OutWord = 67
code_of PopulationWord = 68
code_of QueryWord = 69
code_of ResolveAllWord = 70
code_of ResolveInWord = 71
code_of ResolveOneWord = 72
code_of ResolveOneInWord = 73
code_of ResultWord = 74
code_of ReturnWord = 75
code_of SelfWord = 76
code_of SequenceWord = 77
code_of SetWord = 78
code_of ThenWord = 79
code_of TransformationWord = 80
code_of TrueWord = 81
code_of UsesWord = 82
code_of VarWord = 83
code_of WhenWord = 84
code_of WhileWord = 85
code_of XmapWord = 86
code_of XorWord = 87

-- the class is one of these
abbrev pub of : List ℕ → Tok → Bool
of [] t = false
of (k ∷ ks) t = of ks t || nat_eq (code_of t.class) k

abbrev pub is : Class → Tok → Bool
is c = of (code_of c ∷ [])

-- the place of the first token, or of the end
abbrev pub place_of : Place → List Tok → Place
place_of end [] = end
place_of end (t ∷ ts) = t.place

abbrev pub is_nil : List Tok → Bool
is_nil [] = true
is_nil (t ∷ ts) = false
