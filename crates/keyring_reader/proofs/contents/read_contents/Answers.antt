use Rattle.std.proofs.Common.{[], ap, ◌∙◌, rules}
use Rattle.keyring_reader.specs.Walk.{kind_in, innermost}
use Rattle.keyring_reader.specs.Contents.{contents_of}
use Rattle.keyring_reader.specs.Saying.{contents_from}
use Rattle.keyring_reader.specs.Keyring.{IsFault}
use Rattle.keyring_reader.proofs.ContentsLemmas.{start_refused}
use Rattle.keyring_reader.proofs.JudgedLemmas.{in_turn}
use Rattle.keyring_reader.proofs.KindLemmas.{elements_within, all_within}
use Rattle.keyring_reader.proofs.contents.read_contents.Goals as goal

pub tags-init : goal.tags-init
tags-init c = (
  record { rows = []; listings = [] },
  c.new-gathered.ensures,
  ap (λ opened. contents_from c.args.under.now (record { rows = []; listings = [] })
      (elements_within opened c.args.tags.now)) c.new-opened.ensures
      ∙ ap (contents_from c.args.under.now (record { rows = []; listings = [] })) (all_within [] c.args.tags.now)
      ∙ in_turn c.args.under.now c.args.tags.now,
)

pub returns-in_err-take_element-in-Start-clause-fault : goal.returns-in_err-take_element-in-Start-clause-fault
returns-in_err-take_element-in-Start-clause-fault c =
    let before = c.tags.invariant in
    let refused : IsFault c.in_err-take_element-in-Start.field-0.0 (contents_of c.args.under.now c.args.tags.now) =
    start_refused c.args.under.now before.0 c.tags.opened c.args.tags.now c.tags.tag-index c.tag-item.result
    c.in-Start.name c.in-Start.attributes c.in-Start.place
    c.within-kind.result c.in_err-take_element-in-Start.field-0.0 (contents_of c.args.under.now c.args.tags.now)
    c.tags-test.true c.tag-item.is c.in-Start.is
    (c.within-kind.ensures ∙ ap (λ outer. kind_in outer c.as_str.result.now c.in-Start.attributes) c.innermost.ensures
    ∙ ap (λ name. kind_in (innermost c.tags.opened) name c.in-Start.attributes) c.as_str.ensures.octets)
    before.2
    (c.in_err-take_element-in-Start.ensures.fault before.0 before.1)
    in
    search (rules, refused)
