-- Expressions that stand in brackets alone.
use Rattle.std.specs.Prelude.{Bool, true, false}
use Rattle.qvt_language.specs.Leads.{Lead, Plain, Bracketed, Each}

abbrev pub in_brackets : Lead → Bool
in_brackets (Plain e target) = false
in_brackets (Bracketed e) = true
in_brackets (Each e part) = false
