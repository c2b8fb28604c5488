use Rattle.text_lines.proofs.WholeFiles.{whole_answer}
use Rattle.text_lines.proofs.whole_file.read_all.Goals as goal

pub returns-in-Ok-clause-whole : goal.returns-in-Ok-clause-whole
returns-in-Ok-clause-whole g c =
    whole_answer (λ text. text.items) (g.F.Files.seen c.args.files.now) (g.F.Files.seen c.open.new.self)
    (g.F.Files.seen c.read_rest.new.files) c.args.name.now c.args.most c.read_rest.result
    c.open.ensures.opens.told c.in-Ok.ensures.opens.opened c.read_rest.ensures.goes c.read_rest.ensures.rest
