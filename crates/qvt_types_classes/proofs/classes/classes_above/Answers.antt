use Rattle.std.proofs.Common.{◌≡◌, ◌∙◌, ap, subst, sym}
use Rattle.qvt_metas.specs.Search.{AreLive, IsAcyclic}
use Rattle.qvt_types_classes.specs.Classes.{own_classes}
use Rattle.qvt_types_classes.specs.Inherited.{numbered_from}
use Rattle.qvt_types_classes.specs.Written.{uncycled_from}
use Rattle.qvt_types_classes.proofs.Cut.{own_alone, own_are, own_live}
use Rattle.qvt_types_classes.proofs.classes.classes_above.Goals as goal

pub read_classes-requires-clause-live : goal.read_classes-requires-clause-live
read_classes-requires-clause-live c =
    let own : c.in_ok-own.own ≡ own_classes c.args.written.now =
    c.in_ok-own.ensures ∙ ap (λ flags. uncycled_from flags 0 c.args.written.now) (c.as_slice-2.ensures ∙ c.in_ok-flags.ensures) ∙ own_are c.args.written.now in
    subst (λ ds. AreLive (numbered_from 0 ds)) (sym own) (own_live c.args.written.now c.requires)

pub read_classes-requires-clause-acyclic : goal.read_classes-requires-clause-acyclic
read_classes-requires-clause-acyclic c =
    let own : c.in_ok-own.own ≡ own_classes c.args.written.now =
    c.in_ok-own.ensures ∙ ap (λ flags. uncycled_from flags 0 c.args.written.now) (c.as_slice-2.ensures ∙ c.in_ok-flags.ensures) ∙ own_are c.args.written.now in
    subst (λ ds. IsAcyclic (numbered_from 0 ds)) (sym own) (own_alone c.args.written.now)
