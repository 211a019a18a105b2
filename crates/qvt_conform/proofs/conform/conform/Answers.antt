use Rattle.std.proofs.Common.{◌≡◌, ◌∙◌, ap, subst, []}
use Rattle.qvt_conform.specs.declared.fault.ConformFault.TheVariants.{NoMemory}
use Rattle.qvt_conform.specs.Containment.{contents}
use Rattle.qvt_conform.specs.Joined.{Joined}
use Rattle.qvt_conform.specs.Lacking.{faults_by}
use Rattle.qvt_conform.specs.Links.{links_from}
use Rattle.qvt_conform.specs.Results.{TellsFault}
use Rattle.qvt_conform.proofs.Lackings.{IsLinked, conform_same, ordered}
use Rattle.qvt_conform.proofs.conform.conform.Goals as goal

pub returns : goal.returns
returns c =
    let m = c.args.metas.now in
    let os = c.args.model.now.objects in
    let ls = c.in_ok-links.links in
    let shown : c.as_slice-objects.result.now ≡ os = c.as_slice-objects.ensures in
    let linked : IsLinked m os ls = record {
      mutual_opposites = c.are_well_formed.ensures.well_formed.mutual_opposites;
      ordered = ordered m c.requires.metamodel os c.requires.model;
      joined = subst (λ xs. Joined [] (links_from m 0 xs) ls) shown c.in_ok-links.ensures;
    } in
    let parts : c.in_ok-containment.containment.contents ≡ contents m os = c.in_ok-containment.ensures.contents ∙ ap (contents m) shown in
    subst (TellsFault NoMemory c.faults.result) ((λ i. faults_by m ls (parts i) 0 (shown i)) ∙ conform_same m os ls linked) c.faults.ensures
