-- `lavrindes_check_tables`: what the checks told, whatever they wrote. Assumes nothing.
use mathlib.Core.Path.{◌∙◌, ap}
use Rattle.tables.specs.declared.Numbers.{Numbers}
use Rattle.answers.specs.Noted.{told, noted}
use Rattle.bench.proofs.Laws.{told_same}
use Rattle.bench.proofs.lavrindes_check_tables.Goals as goal

pub returns : goal.returns
returns c =
    let h = rw (c.new-x.ensures, c.counts_of.ensures) at c.check_tables-said.ensures.0.answer in
    c.note_answer.ensures ∙ ap (λ (n : Numbers). noted n c.args.answer.now) (told_same c.check_tables-said.result ∙ ap told h)
