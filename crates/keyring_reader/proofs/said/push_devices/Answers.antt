use Rattle.std.proofs.Common.{◌==◌, length, sym, ◌∙◌, rules}
use Rattle.std.specs.List.{slice_split}
use Rattle.std.proofs.lemmas.Iterator.Consumers.{YieldsList-turn, YieldsList-end}
use Rattle.std.proofs.lemmas.List.{length_push}
use Rattle.keyring_reader.specs.Elements.{words_of}
use Rattle.keyring_reader.specs.Saying.{devices_at}
use Rattle.keyring_reader.specs.Keyring.{IsFault}
use Rattle.keyring_reader.proofs.FaultLemmas.{is_fault}
use Rattle.keyring_reader.proofs.SenderLemmas.{skipped, one_read, one_refused, all_read, has_octets, has_none, pieces_yielded}
use Rattle.keyring_reader.proofs.said.push_devices.Goals as goal

pub returns-in_err-device_at-clause-fault : goal.returns-in_err-device_at-clause-fault
returns-in_err-device_at-clause-fault c =
    let split = c.split-word-items.ensures in
    let list = pieces_yielded _ _ c.args.text.now c.into_iter-word-iterator.ensures.into_iter_gives split.text
    split.has_more split.pattern in
    let turn = YieldsList-turn list c.words.yielded _ c.words.yielded_by _ _ c.in-Some.word c.in-Some.is
    c.next.ensures.steps in
    let refused : IsFault c.in_err-device_at.field-0.0 (devices_at c.args.place (words_of c.args.text.now)) =
    is_fault c.in_err-device_at.field-0.0 _
    (one_refused c.args.place (slice_split (λ octet. octet == 32) c.args.text.now) (length c.words.yielded)
    c.args.senders.now c.words.senders c.in-Some.word.now
    c.in_err-device_at.field-0.0 c.words.invariant.read turn
    (has_octets c.in-Some.word.now c.is_empty.result c.is_empty.ensures c.if-not-is_empty.true)
    (sym c.device_at.ensures ∙ c.in_err-device_at.was)) in
    search (rules, refused)

pub words-preserved-in_ok-push : goal.words-preserved-in_ok-push
words-preserved-in_ok-push c =
    let split = c.split-word-items.ensures in
    let list = pieces_yielded _ _ c.args.text.now c.into_iter-word-iterator.ensures.into_iter_gives split.text
    split.has_more split.pattern in
    let turn = YieldsList-turn list c.words.yielded _ c.words.yielded_by _ _ c.in-Some.word c.in-Some.is
    c.next.ensures.steps in
    record {
      can = tt;
      finite = tt;
      read =
          one_read c.args.place (slice_split (λ octet. octet == 32) c.args.text.now) (length c.words.yielded) _
          c.args.senders.now c.words.senders c.push.new.self
          c.in-Some.word.now c.in_ok-device_at.field-0 c.words.invariant.read turn
          (has_octets c.in-Some.word.now c.is_empty.result c.is_empty.ensures c.if-not-is_empty.true)
          (sym c.device_at.ensures ∙ c.in_ok-device_at.was) c.in_ok-push.ensures
          (length_push c.words.yielded c.in-Some.word);
    }

pub words-preserved : goal.words-preserved
words-preserved c =
    let split = c.split-word-items.ensures in
    let list = pieces_yielded _ _ c.args.text.now c.into_iter-word-iterator.ensures.into_iter_gives split.text
    split.has_more split.pattern in
    let turn = YieldsList-turn list c.words.yielded _ c.words.yielded_by _ _ c.in-Some.word c.in-Some.is
    c.next.ensures.steps in
    record {
      can = tt;
      finite = tt;
      read =
          skipped c.args.place (slice_split (λ octet. octet == 32) c.args.text.now) (length c.words.yielded) _
          c.args.senders.now c.words.senders c.in-Some.word.now
          c.words.invariant.read turn (has_none c.in-Some.word.now c.is_empty.result c.is_empty.ensures
          c.if-not-is_empty.false)
          (length_push c.words.yielded c.in-Some.word);
    }

pub returns-clause-pushed : goal.returns-clause-pushed
returns-clause-pushed c =
    let split = c.split-word-items.ensures in
    let list = pieces_yielded _ _ c.args.text.now c.into_iter-word-iterator.ensures.into_iter_gives split.text
    split.has_more split.pattern in
    let end = YieldsList-end list c.words.yielded _ c.words.yielded_by _ _ c.in-None.is c.next.ensures.steps in
    all_read c.args.place (slice_split (λ octet. octet == 32) c.args.text.now) (length c.words.yielded)
    c.args.senders.now c.words.senders c.words.invariant.read end.1
