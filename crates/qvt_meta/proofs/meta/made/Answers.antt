use Rattle.std.proofs.Common.{◌∙◌}
use Rattle.qvt_meta.proofs.Made.{one_kept, one_numbered}
use Rattle.qvt_meta.proofs.meta.made.Goals as goal

pub from_parts-alone-requires : goal.from_parts-alone-requires
from_parts-alone-requires c =
    one_kept c.args.meta c.args.numbers _ _ _
    (record { passes = c.requires.passes; named = c.requires.named; name = c.have_texts.ensures.name; texts = c.have_texts.ensures.classes; enum_texts = c.have_texts.ensures.enums })
    c.requires.numbers c.requires.tables

pub from_parts-requires : goal.from_parts-requires
from_parts-requires c = record {
  checked = record { passes = c.requires.passes; named = c.requires.named; name = c.have_texts.ensures.name; texts = c.have_texts.ensures.classes; enum_texts = c.have_texts.ensures.enums };
  numbers = c.from_parts-alone.ensures ∙ one_numbered c.args.meta c.args.numbers c.requires.numbers;
}
