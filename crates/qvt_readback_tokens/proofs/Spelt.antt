-- How each token is spelled: of letters, or by one or two signs; and which characters end it.
use Rattle.std.proofs.Common.{◌≡◌, ℕ, [], ◌∷◌, Bool, true, ◌||◌, ◌&&◌, nat_le, refl, unwrap_or}
use Rattle.qvt_words.specs.Words.{is_single_sign, is_double_sign, is_reserved, word_of, sign_of, spelling}
use Rattle.qvt_lexer.specs.Literals.{every, begins}
use Rattle.qvt_language.specs.declared.class.Class.{Class}
use Rattle.qvt_language.specs.declared.class.Class.TheVariants as class

pub data Kind : Type 0 where
  Named : Kind
  Number : Kind
  Text : Kind
  Reserved : Kind
  One : Kind
  Two : Kind

abbrev pub kind_of : Class → Kind
kind_of class.Name = Named
kind_of class.Integer = Number
kind_of class.Str = Text
kind_of class.OpenRound = One
kind_of class.CloseRound = One
kind_of class.OpenBrace = One
kind_of class.CloseBrace = One
kind_of class.Comma = One
kind_of class.Semicolon = One
kind_of class.Colon = One
kind_of class.Dot = One
kind_of class.Bar = One
kind_of class.AtSign = One
kind_of class.EqualSign = One
kind_of class.LessSign = One
kind_of class.GreaterSign = One
kind_of class.PlusSign = One
kind_of class.MinusSign = One
kind_of class.Star = One
kind_of class.DoubleColon = Two
kind_of class.DotDot = Two
kind_of class.Arrow = Two
kind_of class.DoubleEqual = Two
kind_of class.Diamond = Two
kind_of class.BangEqual = Two
kind_of class.AtMost = Two
kind_of class.AtLeast = Two
kind_of class.Becomes = Two
kind_of class.PlusEqual = Two
kind_of c = Reserved

abbrev pub is_letter : ℕ → Bool
is_letter c = (nat_le 97 c && nat_le c 122) || (nat_le 65 c && nat_le c 90)

-- a word of letters alone
pub record IsWord (c : Class) : Type 0 where
  pub some : begins is_letter (spelling c) ≡ true
  pub letters : every is_letter (spelling c) ≡ true
  pub reserved : is_reserved (spelling c) ≡ true
  pub same : unwrap_or (word_of (spelling c)) class.Name ≡ c

pub record IsOne (c : Class) : Type 0 where
  pub first : ℕ
  pub text : spelling c ≡ first ∷ []
  pub single : is_single_sign first ≡ true
  pub same : unwrap_or (sign_of (spelling c)) class.Name ≡ c

pub record IsTwo (c : Class) : Type 0 where
  pub first : ℕ
  pub second : ℕ
  pub text : spelling c ≡ first ∷ second ∷ []
  pub double : is_double_sign first second ≡ true
  pub same : unwrap_or (sign_of (spelling c)) class.Name ≡ c

abbrev pub Spelt : Kind → Class → Type 0
Spelt Named c = c ≡ class.Name
Spelt Number c = c ≡ class.Integer
Spelt Text c = c ≡ class.Str
Spelt Reserved c = IsWord c
Spelt One c = IsOne c
Spelt Two c = IsTwo c

pub spelt : (c : Class) → Spelt (kind_of c) c
unfolding is_reserved word_of sign_of is_single_sign is_double_sign
spelt class.Name = refl
spelt class.Integer = refl
spelt class.Str = refl
spelt class.OpenRound = record { first = 40; text = refl; single = refl; same = refl }
spelt class.CloseRound = record { first = 41; text = refl; single = refl; same = refl }
spelt class.OpenBrace = record { first = 123; text = refl; single = refl; same = refl }
spelt class.CloseBrace = record { first = 125; text = refl; single = refl; same = refl }
spelt class.Comma = record { first = 44; text = refl; single = refl; same = refl }
spelt class.Semicolon = record { first = 59; text = refl; single = refl; same = refl }
spelt class.Colon = record { first = 58; text = refl; single = refl; same = refl }
spelt class.Dot = record { first = 46; text = refl; single = refl; same = refl }
spelt class.Bar = record { first = 124; text = refl; single = refl; same = refl }
spelt class.AtSign = record { first = 64; text = refl; single = refl; same = refl }
spelt class.EqualSign = record { first = 61; text = refl; single = refl; same = refl }
spelt class.LessSign = record { first = 60; text = refl; single = refl; same = refl }
spelt class.GreaterSign = record { first = 62; text = refl; single = refl; same = refl }
spelt class.PlusSign = record { first = 43; text = refl; single = refl; same = refl }
spelt class.MinusSign = record { first = 45; text = refl; single = refl; same = refl }
spelt class.Star = record { first = 42; text = refl; single = refl; same = refl }
spelt class.DoubleColon = record { first = 58; second = 58; text = refl; double = refl; same = refl }
spelt class.DotDot = record { first = 46; second = 46; text = refl; double = refl; same = refl }
spelt class.Arrow = record { first = 45; second = 62; text = refl; double = refl; same = refl }
spelt class.DoubleEqual = record { first = 61; second = 61; text = refl; double = refl; same = refl }
spelt class.Diamond = record { first = 60; second = 62; text = refl; double = refl; same = refl }
spelt class.BangEqual = record { first = 33; second = 61; text = refl; double = refl; same = refl }
spelt class.AtMost = record { first = 60; second = 61; text = refl; double = refl; same = refl }
spelt class.AtLeast = record { first = 62; second = 61; text = refl; double = refl; same = refl }
spelt class.Becomes = record { first = 58; second = 61; text = refl; double = refl; same = refl }
spelt class.PlusEqual = record { first = 43; second = 61; text = refl; double = refl; same = refl }
spelt class.AndWord = record { some = refl; letters = refl; reserved = refl; same = refl }
spelt class.BagWord = record { some = refl; letters = refl; reserved = refl; same = refl }
spelt class.ClassWord = record { some = refl; letters = refl; reserved = refl; same = refl }
spelt class.ConstructorWord = record { some = refl; letters = refl; reserved = refl; same = refl }
spelt class.DisjunctsWord = record { some = refl; letters = refl; reserved = refl; same = refl }
spelt class.ElifWord = record { some = refl; letters = refl; reserved = refl; same = refl }
spelt class.ElseWord = record { some = refl; letters = refl; reserved = refl; same = refl }
spelt class.EndWord = record { some = refl; letters = refl; reserved = refl; same = refl }
spelt class.EndifWord = record { some = refl; letters = refl; reserved = refl; same = refl }
spelt class.ExtendsWord = record { some = refl; letters = refl; reserved = refl; same = refl }
spelt class.FalseWord = record { some = refl; letters = refl; reserved = refl; same = refl }
spelt class.ForEachWord = record { some = refl; letters = refl; reserved = refl; same = refl }
spelt class.HelperWord = record { some = refl; letters = refl; reserved = refl; same = refl }
spelt class.IfWord = record { some = refl; letters = refl; reserved = refl; same = refl }
spelt class.ImpliesWord = record { some = refl; letters = refl; reserved = refl; same = refl }
spelt class.ImportWord = record { some = refl; letters = refl; reserved = refl; same = refl }
spelt class.InWord = record { some = refl; letters = refl; reserved = refl; same = refl }
spelt class.InheritsWord = record { some = refl; letters = refl; reserved = refl; same = refl }
spelt class.InitWord = record { some = refl; letters = refl; reserved = refl; same = refl }
spelt class.InoutWord = record { some = refl; letters = refl; reserved = refl; same = refl }
spelt class.IntermediateWord = record { some = refl; letters = refl; reserved = refl; same = refl }
spelt class.InvResolveWord = record { some = refl; letters = refl; reserved = refl; same = refl }
spelt class.InvResolveInWord = record { some = refl; letters = refl; reserved = refl; same = refl }
spelt class.InvResolveOneWord = record { some = refl; letters = refl; reserved = refl; same = refl }
spelt class.InvResolveOneInWord = record { some = refl; letters = refl; reserved = refl; same = refl }
spelt class.LateWord = record { some = refl; letters = refl; reserved = refl; same = refl }
spelt class.LibraryWord = record { some = refl; letters = refl; reserved = refl; same = refl }
spelt class.MainWord = record { some = refl; letters = refl; reserved = refl; same = refl }
spelt class.MapWord = record { some = refl; letters = refl; reserved = refl; same = refl }
spelt class.MappingWord = record { some = refl; letters = refl; reserved = refl; same = refl }
spelt class.MergesWord = record { some = refl; letters = refl; reserved = refl; same = refl }
spelt class.ModelTypeWord = record { some = refl; letters = refl; reserved = refl; same = refl }
spelt class.NewWord = record { some = refl; letters = refl; reserved = refl; same = refl }
spelt class.NotWord = record { some = refl; letters = refl; reserved = refl; same = refl }
spelt class.NullWord = record { some = refl; letters = refl; reserved = refl; same = refl }
spelt class.ObjectWord = record { some = refl; letters = refl; reserved = refl; same = refl }
spelt class.OrWord = record { some = refl; letters = refl; reserved = refl; same = refl }
spelt class.OrderedSetWord = record { some = refl; letters = refl; reserved = refl; same = refl }
spelt class.OutWord = record { some = refl; letters = refl; reserved = refl; same = refl }
spelt class.PopulationWord = record { some = refl; letters = refl; reserved = refl; same = refl }
spelt class.QueryWord = record { some = refl; letters = refl; reserved = refl; same = refl }
spelt class.ResolveAllWord = record { some = refl; letters = refl; reserved = refl; same = refl }
spelt class.ResolveInWord = record { some = refl; letters = refl; reserved = refl; same = refl }
spelt class.ResolveOneWord = record { some = refl; letters = refl; reserved = refl; same = refl }
spelt class.ResolveOneInWord = record { some = refl; letters = refl; reserved = refl; same = refl }
spelt class.ResultWord = record { some = refl; letters = refl; reserved = refl; same = refl }
spelt class.ReturnWord = record { some = refl; letters = refl; reserved = refl; same = refl }
spelt class.SelfWord = record { some = refl; letters = refl; reserved = refl; same = refl }
spelt class.SequenceWord = record { some = refl; letters = refl; reserved = refl; same = refl }
spelt class.SetWord = record { some = refl; letters = refl; reserved = refl; same = refl }
spelt class.ThenWord = record { some = refl; letters = refl; reserved = refl; same = refl }
spelt class.TransformationWord = record { some = refl; letters = refl; reserved = refl; same = refl }
spelt class.TrueWord = record { some = refl; letters = refl; reserved = refl; same = refl }
spelt class.UsesWord = record { some = refl; letters = refl; reserved = refl; same = refl }
spelt class.VarWord = record { some = refl; letters = refl; reserved = refl; same = refl }
spelt class.WhenWord = record { some = refl; letters = refl; reserved = refl; same = refl }
spelt class.WhileWord = record { some = refl; letters = refl; reserved = refl; same = refl }
spelt class.XmapWord = record { some = refl; letters = refl; reserved = refl; same = refl }
spelt class.XorWord = record { some = refl; letters = refl; reserved = refl; same = refl }
