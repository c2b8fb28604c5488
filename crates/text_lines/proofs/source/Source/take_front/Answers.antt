use Rattle.std.proofs.Common.{rules}
use Rattle.text_lines.proofs.Readers.{front_taken}
use Rattle.text_lines.proofs.source.Source.take_front.Goals as goal

pub returns : goal.returns
returns c =
    let rest = front_taken c.self.inside.store c.self.inside.from c.self.inside.to c.args.count (search rules)
    (search rules) in
    search (rules, rest)
