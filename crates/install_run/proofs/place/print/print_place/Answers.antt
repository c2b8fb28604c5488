use Rattle.std.proofs.Common.{◌++◌, ap, subst, ◌∙◌}
use Rattle.knx_base.specs.Sink.{Prints}
use Rattle.std.specs.Io.KnownBytes.{append_known}
use Rattle.step_text.specs.Text.{node_text, image_text}
use Rattle.step_text.proofs.Pieces.{then, no_more}
use Rattle.install_run.specs.Printing.{first_of, kept_of}
use Rattle.install_run.specs.Report.{objects_text}
use Rattle.install_run.proofs.place.print.print_place.Goals as goal

pub returns-in_err-print_node-clause-text : goal.returns-in_err-print_node-clause-text
returns-in_err-print_node-clause-text g c =
    let p = c.args.place.now in
    let first = node_text c.first_line.result in
    let rest = objects_text p.node.standing ++ (kept_of p.node ++ image_text p.node.octets) in
    subst (λ n. Prints (g.S.Sink.octets c.args.out.now) (g.S.Sink.octets c.print_node.new.out) c.from_residual.result
    (node_text n ++ rest)) c.first_line.ensures
    (no_more _ _ c.from_residual.result first rest c.from_residual.ensures.0 c.in_err-print_node.ensures.text)

pub returns-in_err-print_values-clause-text : goal.returns-in_err-print_values-clause-text
returns-in_err-print_values-clause-text g c =
    let p = c.args.place.now in
    let result = c.from_residual-in_err-print_values.result in
    let rest = kept_of p.node ++ image_text p.node.octets in
    let first = c.in_ok-print_node.ensures.text ∙ ap (λ n. append_known (g.S.Sink.octets c.args.out.now) (node_text n))
    c.first_line.ensures in
    then _ _ _ result (node_text (first_of c.args.node.now p)) (objects_text p.node.standing ++ rest) first
    (no_more _ _ result (objects_text p.node.standing) rest c.from_residual-in_err-print_values.ensures.0
    c.in_err-print_values.ensures.text)

pub returns-in_err-print_all_kept-clause-text : goal.returns-in_err-print_all_kept-clause-text
returns-in_err-print_all_kept-clause-text g c =
    let p = c.args.place.now in
    let result = c.from_residual-in_err-print_all_kept.result in
    let image = image_text p.node.octets in
    let first = c.in_ok-print_node.ensures.text ∙ ap (λ n. append_known (g.S.Sink.octets c.args.out.now) (node_text n))
    c.first_line.ensures in
    then _ _ _ result (node_text (first_of c.args.node.now p))
    (objects_text p.node.standing ++ (kept_of p.node ++ image)) first
    (then _ _ _ result (objects_text p.node.standing) (kept_of p.node ++ image) c.in_ok-print_values.ensures.text
    (no_more _ _ result (kept_of p.node) image c.from_residual-in_err-print_all_kept.ensures.0
    c.in_err-print_all_kept.ensures.text))

pub returns-clause-text : goal.returns-clause-text
returns-clause-text g c =
    let p = c.args.place.now in
    let result = c.print_octets.result in
    let image = image_text p.node.octets in
    let first = c.in_ok-print_node.ensures.text ∙ ap (λ n. append_known (g.S.Sink.octets c.args.out.now) (node_text n))
    c.first_line.ensures in
    then _ _ _ result (node_text (first_of c.args.node.now p))
    (objects_text p.node.standing ++ (kept_of p.node ++ image)) first
    (then _ _ _ result (objects_text p.node.standing) (kept_of p.node ++ image) c.in_ok-print_values.ensures.text
    (then _ _ _ result (kept_of p.node) image c.in_ok-print_all_kept.ensures.text c.print_octets.ensures.text))
