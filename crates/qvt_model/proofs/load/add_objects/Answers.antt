use Rattle.std.proofs.Common.{subst, List}
use Rattle.qvt_model.specs.declared.data.ObjectData.{ObjectData}
use Rattle.qvt_model.specs.Steps.{IsAdding}
use Rattle.qvt_model.proofs.Told.{drop_cons, drop_none, adding_more}
use Rattle.qvt_model.proofs.load.add_objects.Goals as goal

pub add_object-requires : goal.add_object-requires
add_object-requires c =
    let more = subst (λ (l : List ObjectData). IsAdding c.args.store.now c.loop-object.store c.args.extent c.args.objects.now l)
    (drop_cons c.args.objects.now c.loop-object.object-index c.object-item.result c.loop-object-test.true c.object-item.is) c.loop-object.invariant in
    more.can.0

pub loop-object-preserved : goal.loop-object-preserved
loop-object-preserved c =
    let more = subst (λ (l : List ObjectData). IsAdding c.args.store.now c.loop-object.store c.args.extent c.args.objects.now l)
    (drop_cons c.args.objects.now c.loop-object.object-index c.object-item.result c.loop-object-test.true c.object-item.is) c.loop-object.invariant in
    adding_more c.args.store.now c.loop-object.store c.add_object.new.store c.args.extent c.args.objects.now _ c.object-item.result c.in_ok-add_object.ensures more

pub returns : goal.returns
returns c = (subst (λ (l : List ObjectData). IsAdding c.args.store.now c.loop-object.store c.args.extent c.args.objects.now l)
    (drop_none c.args.objects.now c.loop-object.object-index c.loop-object-test.false) c.loop-object.invariant).same
