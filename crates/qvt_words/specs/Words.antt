-- The reserved words and the signs, and how each is spelled (OCL 2.4, 7; QVT 1.3, 8.4).
use Rattle.std.specs.Prelude.{ℕ, Bool, List, [], ◌∷◌, Option, is_some, find, codes}
use Rattle.std.specs.Option.{option_or}
use Rattle.std.specs.List.{list_any}
use Rattle.std.specs.Str.{bytes_eq}
use Rattle.qvt_words.specs.declared.class.Class.{Class}
use Rattle.qvt_words.specs.declared.class.Class.TheVariants.{Name, Integer, Str, OpenRound, CloseRound, OpenBrace, CloseBrace, Comma, Semicolon, Colon, DoubleColon, Dot, DotDot, Arrow, Bar, AtSign, EqualSign, DoubleEqual, Diamond, BangEqual, LessSign, AtMost, GreaterSign, AtLeast, PlusSign, MinusSign, Star, Becomes, PlusEqual, AndWord, BagWord, ClassWord, ConstructorWord, DisjunctsWord, ElifWord, ElseWord, EndWord, EndifWord, ExtendsWord, FalseWord, ForEachWord, HelperWord, IfWord, ImpliesWord, ImportWord, InWord, InheritsWord, InitWord, InoutWord, IntermediateWord, InvResolveWord, InvResolveInWord, InvResolveOneWord, InvResolveOneInWord, LateWord, LibraryWord, MainWord, MapWord, MappingWord, MergesWord, ModelTypeWord, NewWord, NotWord, NullWord, ObjectWord, OrWord, OrderedSetWord, OutWord, PopulationWord, QueryWord, ResolveAllWord, ResolveInWord, ResolveOneWord, ResolveOneInWord, ResultWord, ReturnWord, SelfWord, SequenceWord, SetWord, ThenWord, TransformationWord, TrueWord, UsesWord, VarWord, WhenWord, WhileWord, XmapWord, XorWord}

-- the table: names, numbers and texts have no spelling of their own
abbrev pub spelling : Class → List ℕ
spelling Name = []
spelling Integer = []
spelling Str = []
spelling OpenRound = codes "("
spelling CloseRound = codes ")"
spelling OpenBrace = codes "{"
spelling CloseBrace = codes "}"
spelling Comma = codes ","
spelling Semicolon = codes ";"
spelling Colon = codes ":"
spelling DoubleColon = codes "::"
spelling Dot = codes "."
spelling DotDot = codes ".."
spelling Arrow = codes "->"
spelling Bar = codes "|"
spelling AtSign = codes "@"
spelling EqualSign = codes "="
spelling DoubleEqual = codes "=="
spelling Diamond = codes "<>"
spelling BangEqual = codes "!="
spelling LessSign = codes "<"
spelling AtMost = codes "<="
spelling GreaterSign = codes ">"
spelling AtLeast = codes ">="
spelling PlusSign = codes "+"
spelling MinusSign = codes "-"
spelling Star = codes "*"
spelling Becomes = codes ":="
spelling PlusEqual = codes "+="
spelling AndWord = codes "and"
spelling BagWord = codes "Bag"
spelling ClassWord = codes "class"
spelling ConstructorWord = codes "constructor"
spelling DisjunctsWord = codes "disjuncts"
spelling ElifWord = codes "elif"
spelling ElseWord = codes "else"
spelling EndWord = codes "end"
spelling EndifWord = codes "endif"
spelling ExtendsWord = codes "extends"
spelling FalseWord = codes "false"
spelling ForEachWord = codes "forEach"
spelling HelperWord = codes "helper"
spelling IfWord = codes "if"
spelling ImpliesWord = codes "implies"
spelling ImportWord = codes "import"
spelling InWord = codes "in"
spelling InheritsWord = codes "inherits"
spelling InitWord = codes "init"
spelling InoutWord = codes "inout"
spelling IntermediateWord = codes "intermediate"
spelling InvResolveWord = codes "invresolve"
spelling InvResolveInWord = codes "invresolveIn"
spelling InvResolveOneWord = codes "invresolveone"
spelling InvResolveOneInWord = codes "invresolveoneIn"
spelling LateWord = codes "late"
spelling LibraryWord = codes "library"
spelling MainWord = codes "main"
spelling MapWord = codes "map"
spelling MappingWord = codes "mapping"
spelling MergesWord = codes "merges"
spelling ModelTypeWord = codes "modeltype"
spelling NewWord = codes "new"
spelling NotWord = codes "not"
spelling NullWord = codes "null"
spelling ObjectWord = codes "object"
spelling OrWord = codes "or"
spelling OrderedSetWord = codes "OrderedSet"
spelling OutWord = codes "out"
spelling PopulationWord = codes "population"
spelling QueryWord = codes "query"
spelling ResolveAllWord = codes "resolve"
spelling ResolveInWord = codes "resolveIn"
spelling ResolveOneWord = codes "resolveone"
spelling ResolveOneInWord = codes "resolveoneIn"
spelling ResultWord = codes "result"
spelling ReturnWord = codes "return"
spelling SelfWord = codes "self"
spelling SequenceWord = codes "Sequence"
spelling SetWord = codes "Set"
spelling ThenWord = codes "then"
spelling TransformationWord = codes "transformation"
spelling TrueWord = codes "true"
spelling UsesWord = codes "uses"
spelling VarWord = codes "var"
spelling WhenWord = codes "when"
spelling WhileWord = codes "while"
spelling XmapWord = codes "xmap"
spelling XorWord = codes "xor"

abbrev pub words : List Class
words = AndWord ∷ BagWord ∷ ClassWord ∷ ConstructorWord ∷ DisjunctsWord ∷ ElifWord ∷ ElseWord ∷ EndWord ∷ EndifWord ∷ ExtendsWord ∷ FalseWord ∷ ForEachWord ∷ HelperWord ∷ IfWord ∷ ImpliesWord ∷ ImportWord ∷ InWord ∷ InheritsWord ∷ InitWord ∷ InoutWord ∷ IntermediateWord ∷ InvResolveWord ∷ InvResolveInWord ∷ InvResolveOneWord ∷ InvResolveOneInWord ∷ LateWord ∷ LibraryWord ∷ MainWord ∷ MapWord ∷ MappingWord ∷ MergesWord ∷ ModelTypeWord ∷ NewWord ∷ NotWord ∷ NullWord ∷ ObjectWord ∷ OrWord ∷ OrderedSetWord ∷ OutWord ∷ PopulationWord ∷ QueryWord ∷ ResolveAllWord ∷ ResolveInWord ∷ ResolveOneWord ∷ ResolveOneInWord ∷ ResultWord ∷ ReturnWord ∷ SelfWord ∷ SequenceWord ∷ SetWord ∷ ThenWord ∷ TransformationWord ∷ TrueWord ∷ UsesWord ∷ VarWord ∷ WhenWord ∷ WhileWord ∷ XmapWord ∷ XorWord ∷ []

-- the signs of one character, and of two
abbrev pub single_signs : List Class
single_signs = OpenRound ∷ CloseRound ∷ OpenBrace ∷ CloseBrace ∷ Comma ∷ Semicolon ∷ Colon ∷ Dot ∷ Bar ∷ AtSign ∷ EqualSign ∷ LessSign ∷ GreaterSign ∷ PlusSign ∷ MinusSign ∷ Star ∷ []

abbrev pub double_signs : List Class
double_signs = DoubleColon ∷ DotDot ∷ Arrow ∷ DoubleEqual ∷ Diamond ∷ BangEqual ∷ AtMost ∷ AtLeast ∷ Becomes ∷ PlusEqual ∷ []

-- the first of the classes that is spelled so
abbrev pub found : List ℕ → List Class → Option Class
found text classes = find (λ class. bytes_eq text (spelling class)) classes

-- the reserved word that is spelled so
unfoldable pub word_of : List ℕ → Option Class
word_of text = found text words

unfoldable pub is_reserved : List ℕ → Bool
is_reserved text = is_some (word_of text)

-- the sign that is spelled so
unfoldable pub sign_of : List ℕ → Option Class
sign_of text = option_or (found text single_signs) (found text double_signs)

-- whether a character, or two, are a sign: their spellings are ASCII, where a byte is a character
unfoldable pub is_single_sign : ℕ → Bool
is_single_sign c = list_any (λ class. bytes_eq (c ∷ []) (spelling class)) single_signs

unfoldable pub is_double_sign : ℕ → ℕ → Bool
is_double_sign c d = list_any (λ class. bytes_eq (c ∷ d ∷ []) (spelling class)) double_signs
