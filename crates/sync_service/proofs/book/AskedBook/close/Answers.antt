use Rattle.std.proofs.Common.{None, ap, ◌∙◌}
use Rattle.sync_service.specs.Open.{asked_in, with_pair}
use Rattle.sync_service.proofs.Pairs.{book_updated}
use Rattle.sync_service.proofs.book.AskedBook.close.Goals as goal

pub returns : goal.returns
returns c = record {
  closed = book_updated c.self.inside.challenges.entries c.remove.new.self.entries c.args.requester c.args.responder
      None c.remove.ensures.updates.0
      ∙ ap (λ book. with_pair c.args.requester c.args.responder None (asked_in book)) c.self.view_is;
}
