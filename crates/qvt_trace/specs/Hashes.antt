-- The hashes of keys.
use Rattle.std.specs.Prelude.{ℕ, ◌==◌, Bool, List, Option, fold}
use Rattle.std.specs.Hash as fed
use Rattle.std.specs.Hash.DefaultHasher as sip
use Rattle.qvt_base.specs.declared.numbers.MappingNo.{MappingNo}
use Rattle.qvt_base.specs.declared.numbers.Oid.{Oid}
use Rattle.qvt_base.specs.contracts.numbers.MappingNoHash.TheImpl as mapping
use Rattle.qvt_base.specs.contracts.numbers.OidHash.TheImpl as object
use Rattle.qvt_value.specs.contracts.value.ValueHash.TheImpl as value
use Rattle.qvt_value.specs.declared.value.Value.{Value}
use Rattle.qvt_run_rules.specs.declared.record.Record.{Record}

-- SipHash of the mapping, the context and the arguments, one after another
unfoldable pub key_hash : MappingNo → Option Oid → List Value → ℕ
key_hash m c args =
    sip.finish (fold sip.write (fold sip.write (fold sip.write sip.initial (mapping.ghosts.hash_input m)) (fed.option object.ghosts.hash_input c)) (fed.slice value.ghosts.hash_input args))

-- the key of the record has this hash
abbrev pub has_hash : ℕ → Record → Bool
has_hash h r = key_hash r.mapping r.context r.args == h
