use Rattle.std.proofs.Common.{◌≡◌, ◌++◌, length, refl, ap, ◌∙◌}
use Rattle.std.proofs.lemmas.List.{length-map}
use Rattle.volumes.specs.Volumes.{rules_of}
use Rattle.shelf.specs.declared.calls.Call.TheVariants.{Admit}
use Rattle.listing.specs.Listing.{Listed}
use Rattle.listing.specs.Calls.{numbers, admitting, asking, all_texts}
use Rattle.listing.proofs.Printing.{run_listed, volume_rules, if_ok}
use Rattle.listing.proofs.listing.list_rules.Goals as goal

pub returns : goal.returns
returns c =
    let rs = rules_of c.args.volume.now.bytes.now in
    let v = volume_rules c.args.volume.now.bytes.now in
    let admit = Admit c.args.volume.now in
    let cs = c.as_slice-3.result.now in
    let first : c.as_slice.result.now ≡ numbers rs = c.as_slice.ensures.value ∙ c.numbers_of-numbers.ensures in
    let ns : c.as_slice-2.result.now ≡ numbers rs = c.as_slice-2.ensures.value ∙ c.numbers_of-numbers.ensures in
    let are : cs ≡ admitting (Admit c.args.volume.now) 0 (length rs) ++ asking (numbers rs) =
    c.as_slice-3.ensures.value ∙ c.in_ok-calls.ensures ∙ ap (λ z. admitting (Admit c.args.volume.now) 0 (length z) ++ asking z) first
    ∙ ap (λ n. admitting (Admit c.args.volume.now) 0 n ++ asking (numbers rs)) (length-map rs _) in
    if_ok _ (λ text. Listed rs text.items)
    (λ text p. run_listed (Admit c.args.volume.now) rs (λ held i. refl) (λ i x. refl) v.0 v.1 cs (length cs) p.0 p.1 text.items are p.2 p.3 (p.4 ∙ ap (λ z. all_texts z cs p.1) ns))
    c.print_run.result c.print_run.ensures
