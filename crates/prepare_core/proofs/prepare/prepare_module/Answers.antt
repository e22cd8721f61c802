use Rattle.std.proofs.Common.{ap, ◌∙◌, map, arith, length, ◌<◌, ◌^◌}
use Rattle.std.proofs.lemmas.Bool.{and_parts}
use Rattle.js_term.specs.Form.{items_of, has_small_form, has_distinct_names, is_printable}
use Rattle.js_term.specs.Term.{all}
use Rattle.small_tree.specs.TermOf.{program_term, statement_term}
use Rattle.module_model.specs.Meaning.{requests}
use Rattle.module_model.specs.ReadBack.{read_back}
use Rattle.module_model.proofs.Output.{run_means}
use Rattle.module_model.proofs.Printable.{run_printable}
use Rattle.module_model.proofs.Small.{small_module}
use Rattle.prepare_core.proofs.Brought.{requests_few}
use Rattle.prepare_core.proofs.Direct.{all_kept_direct}
use Rattle.prepare_core.proofs.Whole.{prepared}
use Rattle.prepare_core.proofs.prepare.prepare_module.Goals as goal

pub prepared_body-requires : goal.prepared_body-requires
prepared_body-requires c =
    let t = program_term c.args.program in
    all_kept_direct (all (map statement_term c.args.program.body)) (small_module t (and_parts (has_small_form t) (has_distinct_names t) c.requires).0).small_items

pub returns-clause-means : goal.returns-clause-means
returns-clause-means c =
    let few : length (requests (items_of (program_term c.args.program))) < 2 ^ 64 = omega (arith, requests_few c.args.program.body, ap length c.as_slice.ensures) in
    ap read_back (prepared c.args.program c.in_ok-made.made c.in_ok-made.ensures) ∙ run_means (program_term c.args.program) c.requires few

pub returns-clause-printable : goal.returns-clause-printable
returns-clause-printable c =
    ap is_printable (prepared c.args.program c.in_ok-made.made c.in_ok-made.ensures) ∙ run_printable (program_term c.args.program) c.requires
