-- Pieces that can be read again one by one: names are names, texts are characters, numbers are not too large, and no two
-- neighbours run together.
use Rattle.std.proofs.Common.{◌≡◌, List, [], ◌∷◌, ◌++◌, Bool, true, false, ◌&&◌, refl}
use Rattle.qvt_language.specs.declared.class.Class.{Class}
use Rattle.qvt_language.specs.declared.class.Class.TheVariants as class
use Rattle.qvt_printer_layout.specs.declared.piece.PrintPiece.{PrintPiece}
use Rattle.qvt_printer_layout.specs.declared.piece.PrintPiece.TheVariants.{Plain, Name, Integer, Quoted, Tight, Line, Indent, Dedent}
use Rattle.qvt_readback_tokens.specs.Told.{IsName, IsEncoded, IsSmall}
use Rattle.qvt_readback_tokens.proofs.Spelt.{Kind, Named, Number, Text, kind_of}
use Rattle.qvt_readback_tokens.proofs.Meets.{Gap, Free, Held, Tied, Opened, after, fits, tightly}

abbrev pub is_spelled : Kind → Bool
is_spelled Named = false
is_spelled Number = false
is_spelled Text = false
is_spelled k = true

abbrev pub stands : Gap → Class → Bool
stands s c = is_spelled (kind_of c) && fits s c

abbrev pub is_loose : Gap → Bool
is_loose Free = true
is_loose Opened = true
is_loose s = false

-- after the gap these pieces can stand, and what they leave is loose
abbrev pub Sound : Gap → List PrintPiece → Type 0
Sound s [] = is_loose s ≡ true
Sound s (Plain c ∷ ps) = (stands s c ≡ true) × Sound (after c) ps
Sound s (Name n ∷ ps) = IsName n × (fits s class.Name ≡ true) × Sound Free ps
Sound s (Integer v ∷ ps) = IsSmall v × (fits s class.Integer ≡ true) × Sound Free ps
Sound s (Quoted t ∷ ps) = IsEncoded t × (fits s class.Str ≡ true) × Sound Free ps
Sound s (Tight ∷ ps) = Sound (tightly s) ps
Sound s (Line ∷ ps) = Sound Free ps
Sound s (Indent ∷ ps) = Sound s ps
Sound s (Dedent ∷ ps) = Sound s ps

-- what can stand in a narrower gap can stand in a wider one
tied_fits : (c : Class) → fits Tied c ≡ true → fits Held c ≡ true
tied_fits class.OpenBrace h = refl
tied_fits class.CloseBrace h = refl
tied_fits c h = absurd cc

wider : (b : Bool) (c : Class) (s t : Gap) → (fits s c ≡ true → fits t c ≡ true) → (b && fits s c) ≡ true → (b && fits t c) ≡ true
wider true c s t k h = k h
wider false c s t k h = absurd cc

-- the narrowest first
pub tied_held : (ps : List PrintPiece) → Sound Tied ps → Sound Held ps
tied_held [] h = absurd cc
tied_held (Plain c ∷ ps) h = (wider (is_spelled (kind_of c)) c Tied Held (tied_fits c) h.0, h.1)
tied_held (Name n ∷ ps) h = absurd (let k = h.1 in cc)
tied_held (Integer v ∷ ps) h = absurd (let k = h.1 in cc)
tied_held (Quoted t ∷ ps) h = absurd (let k = h.1 in cc)
tied_held (Tight ∷ ps) h = h
tied_held (Line ∷ ps) h = h
tied_held (Indent ∷ ps) h = tied_held ps h
tied_held (Dedent ∷ ps) h = tied_held ps h

pub held_free : (ps : List PrintPiece) → Sound Held ps → Sound Free ps
held_free [] h = absurd cc
held_free (Plain c ∷ ps) h = (wider (is_spelled (kind_of c)) c Held Free (λ k. refl) h.0, h.1)
held_free (Name n ∷ ps) h = h
held_free (Integer v ∷ ps) h = h
held_free (Quoted t ∷ ps) h = h
held_free (Tight ∷ ps) h = h
held_free (Line ∷ ps) h = h
held_free (Indent ∷ ps) h = held_free ps h
held_free (Dedent ∷ ps) h = held_free ps h

pub free_opened : (ps : List PrintPiece) → Sound Free ps → Sound Opened ps
free_opened [] h = refl
free_opened (Plain c ∷ ps) h = h
free_opened (Name n ∷ ps) h = h
free_opened (Integer v ∷ ps) h = h
free_opened (Quoted t ∷ ps) h = h
free_opened (Tight ∷ ps) h = held_free ps (tied_held ps h)
free_opened (Line ∷ ps) h = h
free_opened (Indent ∷ ps) h = free_opened ps h
free_opened (Dedent ∷ ps) h = free_opened ps h

loosely : (s : Gap) (ps : List PrintPiece) → is_loose s ≡ true → Sound Free ps → Sound s ps
loosely Free ps h k = k
loosely Opened ps h k = free_opened ps k
loosely Held ps h k = absurd cc
loosely Tied ps h k = absurd cc

-- one after the other
pub sound_append : (s : Gap) (ps qs : List PrintPiece) → Sound s ps → Sound Free qs → Sound s (ps ++ qs)
sound_append s [] qs h k = loosely s qs h k
sound_append s (Plain c ∷ ps) qs h k = (h.0, sound_append (after c) ps qs h.1 k)
sound_append s (Name n ∷ ps) qs h k = (h.0, h.1, sound_append Free ps qs h.2 k)
sound_append s (Integer v ∷ ps) qs h k = (h.0, h.1, sound_append Free ps qs h.2 k)
sound_append s (Quoted t ∷ ps) qs h k = (h.0, h.1, sound_append Free ps qs h.2 k)
sound_append s (Tight ∷ ps) qs h k = sound_append (tightly s) ps qs h k
sound_append s (Line ∷ ps) qs h k = sound_append Free ps qs h k
sound_append s (Indent ∷ ps) qs h k = sound_append s ps qs h k
sound_append s (Dedent ∷ ps) qs h k = sound_append s ps qs h k
