-- The class of a token that passes the test for a class.
use Rattle.std.proofs.Common.{◌≡◌, ℕ, zero, suc, List, [], ◌∷◌, refl, sym, ap, ◌∙◌, IsTrue, eqb-true, eq-eqb, pos}
use Rattle.qvt_language.specs.declared.class.Class.{Class}
use Rattle.qvt_language.specs.declared.class.Class.TheVariants.{Name, Integer, Str, OpenRound, CloseRound, OpenBrace, CloseBrace, Comma, Semicolon, Colon, DoubleColon, Dot, DotDot, Arrow, Bar, AtSign, EqualSign, DoubleEqual, Diamond, BangEqual, LessSign, AtMost, GreaterSign, AtLeast, PlusSign, MinusSign, Star, Becomes, PlusEqual, AndWord, BagWord, ClassWord, ConstructorWord, DisjunctsWord, ElifWord, ElseWord, EndWord, EndifWord, ExtendsWord, FalseWord, ForEachWord, HelperWord, IfWord, ImpliesWord, ImportWord, InWord, InheritsWord, InitWord, InoutWord, IntermediateWord, InvResolveWord, InvResolveInWord, InvResolveOneWord, InvResolveOneInWord, LateWord, LibraryWord, MainWord, MapWord, MappingWord, MergesWord, ModelTypeWord, NewWord, NotWord, NullWord, ObjectWord, OrWord, OrderedSetWord, OutWord, PopulationWord, QueryWord, ResolveAllWord, ResolveInWord, ResolveOneWord, ResolveOneInWord, ResultWord, ReturnWord, SelfWord, SequenceWord, SetWord, ThenWord, TransformationWord, TrueWord, UsesWord, VarWord, WhenWord, WhileWord, XmapWord, XorWord}
use Rattle.qvt_language.specs.Tokens.{Tok, code_of, is}
use Rattle.qvt_language.specs.Readers.{nowhere}

class_at : List Class → ℕ → Class
class_at [] n = Name
class_at (c ∷ cs) zero = c
class_at (c ∷ cs) (suc n) = class_at cs n

all_classes : List Class
all_classes = Name ∷ Integer ∷ Str ∷ OpenRound ∷ CloseRound ∷ OpenBrace ∷ CloseBrace ∷ Comma ∷ Semicolon ∷ Colon ∷ DoubleColon ∷ Dot ∷ DotDot ∷ Arrow ∷ Bar ∷ AtSign ∷ EqualSign ∷ DoubleEqual ∷ Diamond ∷ BangEqual ∷ LessSign ∷ AtMost ∷ GreaterSign ∷ AtLeast ∷ PlusSign ∷ MinusSign ∷ Star ∷ Becomes ∷ PlusEqual ∷ AndWord ∷ BagWord ∷ ClassWord ∷ ConstructorWord ∷ DisjunctsWord ∷ ElifWord ∷ ElseWord ∷ EndWord ∷ EndifWord ∷ ExtendsWord ∷ FalseWord ∷ ForEachWord ∷ HelperWord ∷ IfWord ∷ ImpliesWord ∷ ImportWord ∷ InWord ∷ InheritsWord ∷ InitWord ∷ InoutWord ∷ IntermediateWord ∷ InvResolveWord ∷ InvResolveInWord ∷ InvResolveOneWord ∷ InvResolveOneInWord ∷ LateWord ∷ LibraryWord ∷ MainWord ∷ MapWord ∷ MappingWord ∷ MergesWord ∷ ModelTypeWord ∷ NewWord ∷ NotWord ∷ NullWord ∷ ObjectWord ∷ OrWord ∷ OrderedSetWord ∷ OutWord ∷ PopulationWord ∷ QueryWord ∷ ResolveAllWord ∷ ResolveInWord ∷ ResolveOneWord ∷ ResolveOneInWord ∷ ResultWord ∷ ReturnWord ∷ SelfWord ∷ SequenceWord ∷ SetWord ∷ ThenWord ∷ TransformationWord ∷ TrueWord ∷ UsesWord ∷ VarWord ∷ WhenWord ∷ WhileWord ∷ XmapWord ∷ XorWord ∷ []

class_found : (c : Class) → class_at all_classes (code_of c) ≡ c
unfolding class_at all_classes
class_found Name = refl
class_found _ = refl

pub same_class : (c : Class) (t : Tok) → IsTrue (is c t) → t.class ≡ c
same_class c t h = sym (class_found t.class) ∙ ap (class_at all_classes) (eqb-true (code_of t.class) (code_of c) h) ∙ class_found c

pub is_itself : (c : Class) → IsTrue (is c (record { class = c; text = []; number = pos 0; place = nowhere }))
is_itself c = eq-eqb (code_of c) (code_of c) refl
