-- What a store has that is held or lent.
use Rattle.qvt_store.specs.Contents.{Contents}
use Rattle.qvt_live_store.specs.declared.held.HeldStore.{HeldStore}
use Rattle.qvt_live_store.specs.declared.held.HeldStore.TheVariants.{Lent, Own}

abbrev pub contents_of : HeldStore → Contents
contents_of (Lent s) = s.now
contents_of (Own s) = s
