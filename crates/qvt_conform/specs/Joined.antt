-- A set with these joined to it: it holds what it held and these.
use Rattle.std.specs.Prelude.{◌≡◌, ◌||◌, List}
use Rattle.std.specs.List.{list_any}
use Rattle.qvt_conform.specs.declared.links.ObjectLink.{ObjectLink}
use Rattle.qvt_conform.specs.Links.{same_link}

pub record Joined (old xs new : List ObjectLink) : Type 0 where
  pub holds : (l : ObjectLink) → list_any (same_link l) new ≡ (list_any (same_link l) old || list_any (same_link l) xs)
