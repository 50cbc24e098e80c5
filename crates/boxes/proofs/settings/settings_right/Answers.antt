use Rattle.layout.proofs.Laws.{widths-few}
use Rattle.boxes.proofs.settings.Laws.{settings-laws}
use borrow.Author.Rules.{rules}
use Rattle.boxes.proofs.settings.settings_right.Goals as goal

pub widths-requires : goal.widths-requires
widths-requires c = search (rules, settings-laws)

pub total_words-requires : goal.total_words-requires
total_words-requires c = search (rules, widths-few)

pub returns-then-settings-total_words : goal.returns-then-settings-total_words
returns-then-settings-total_words c = search (rules, settings-laws)

pub loop-position-init : goal.loop-position-init
loop-position-init c = search (rules, settings-laws)

pub port_clear-requires : goal.port_clear-requires
port_clear-requires c = search (rules, settings-laws)

pub returns-then-not-port_clear : goal.returns-then-not-port_clear
returns-then-not-port_clear c = search (rules, settings-laws)

pub overflow_step-position : goal.overflow_step-position
overflow_step-position c = search (rules, settings-laws)

pub loop-position-smaller : goal.loop-position-smaller
loop-position-smaller c = search (rules, settings-laws)

pub loop-position-preserved : goal.loop-position-preserved
loop-position-preserved c = search (rules, settings-laws)

pub returns : goal.returns
returns c = search (rules, settings-laws)
