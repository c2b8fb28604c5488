use Rattle.std.proofs.Common.{[], ◌∙◌}
use Rattle.knx_ccm.proofs.SealingLemmas.{code_from}
use Rattle.knx_ccm.proofs.code.code.Goals as goal

pub returns : goal.returns
returns c =
    let key = c.feed-4.ensures.key ∙ c.feed-3.ensures.key ∙ c.feed-2.ensures.key ∙ c.feed.ensures.key
    ∙ c.new-mac.ensures.key in
    let fed = c.feed-4.ensures.fed _ (c.feed-3.ensures.fed _
    (c.feed-2.ensures.fed _ (c.feed.ensures.fed [] c.new-mac.ensures.nothing_fed))) in
    code_from c.args.key.now _ c.args.head.now c.args.apdu.now _ _ _ _ _ _ key c.encrypted_length.ensures
    c.readable_length.ensures
    c.first_block.ensures c.two_octets.ensures (c.finish.ensures.mac _ fed) c.copy_from_slice.ensures.after
