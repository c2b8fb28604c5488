use Rattle.std.proofs.Common.{Some, sym, ap, subst, ◌≡◌, ◌∙◌}
use Rattle.std.specs.Prelude.{OnOk}
use Rattle.sync_service.specs.Open.{asked_in, with_pair}
use Rattle.sync_service.proofs.Pairs.{book_updated}
use Rattle.sync_service.proofs.book.AskedBook.note.Goals.{in-Ok, in-Err}
use Rattle.sync_service.proofs.book.AskedBook.note.Goals as goal

pub returns-clause-noted : goal.returns-clause-noted
returns-clause-noted c = elim c.match-insert.branch [
  | in-Ok w ↦ subst (λ result. OnOk result noted) (sym w.result-is)
      (book_updated c.self.inside.challenges.entries c.insert.new.self.entries c.args.requester c.args.responder
      (Some c.args.challenge) w.in-Ok.ensures.updates.0
      ∙ ap (λ book. with_pair c.args.requester c.args.responder (Some c.args.challenge) (asked_in book)) c.self.view_is)
  | in-Err w ↦ subst (λ result. OnOk result noted) (sym w.result-is) tt
] where
  noted : Type 0
  noted = asked_in c.insert.new.self.entries ≡ with_pair c.args.requester c.args.responder (Some c.args.challenge)
      (asked_in c.args.self.now)
