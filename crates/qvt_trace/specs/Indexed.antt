-- Records and the tables that they are looked up by.
use Rattle.std.specs.Prelude.{◌≡◌, ℕ, Bool, List, Option, nat_eq}
use Rattle.std.specs.Option.{option_eq}
use Rattle.qvt_base.specs.declared.numbers.Oid.{Oid}
use Rattle.qvt_run_rules.specs.declared.record.Record.{Record}
use Rattle.qvt_trace.specs.Hashes.{has_hash}
use Rattle.qvt_trace.specs.Numbers.{numbers}
use Rattle.qvt_trace.specs.Tables.{kept}
use Rattle.qvt_trace.specs.declared.table.Table.{Table}

-- the test by which ends are looked up
abbrev pub is_end : Option Oid → Option Oid → Bool
is_end a b = option_eq (λ x y. nat_eq x.0 y.0) a b

-- under each key the numbers of the records that have it
pub record IsIndexed (rs : List Record) (keys : Table ℕ) (contexts : Table (Option Oid)) (results : Table (Option Oid)) : Type 0 where
  pub by_key : (h : ℕ) → kept nat_eq keys h ≡ numbers (has_hash h) rs
  pub by_context : (k : Option Oid) → kept is_end contexts k ≡ numbers (λ r. is_end r.context k) rs
  pub by_result : (k : Option Oid) → kept is_end results k ≡ numbers (λ r. is_end r.result k) rs
