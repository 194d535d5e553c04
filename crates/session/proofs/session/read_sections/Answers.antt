use Rattle.feasibility.specs.Contents.{rows_of}
use Rattle.session.proofs.Wrong.{arrival_wrong, arrivals_wrong, line_right, line_wrong, more_wrong, ticks_wrong}
use Rattle.session.proofs.session.read_sections.Goals as goal
use Rattle.std.proofs.lemmas.Result.{err_from_is_err_and}
use Rattle.std.proofs.Common.{◌+◌, length, ap, ◌∙◌, rules}

pub returns-in_err-ticks : goal.returns-in_err-ticks
returns-in_err-ticks c =
    let p = err_from_is_err_and c.from_residual-in_err-ticks.result c.from_residual-in_err-ticks.ensures.1 in
    let is = c.count-rows.ensures ∙ ap (λ d. length (rows_of d)) c.deref.ensures in
    let wrong
    = line_wrong _ _ _ (c.count-rows.result + 2) c.limited_heading.result c.map_err.result
    c.limited_heading.ensures c.map_err.ensures.cases c.in_err-ticks.was (λ e p k. search rules) in
    rw (p.1, p.2) (ticks_wrong c.new-reader.ensures.left c.in_ok-draft.ensures is wrong.0 wrong.1)

pub returns-in_err-count : goal.returns-in_err-count
returns-in_err-count c =
    let p = err_from_is_err_and c.from_residual-in_err-count.result c.from_residual-in_err-count.ensures.1 in
    let is = c.count-rows.ensures ∙ ap (λ d. length (rows_of d)) c.deref.ensures in
    let line₂
    = line_right _ _ _ c.limited_heading.result c.map_err.result c.limited_heading.ensures
    c.map_err.ensures.cases c.in_ok-ticks.was in
    let wrong
    = line_wrong _ _ _ (c.count-rows.result + 3) c.limited_heading-2.result c.map_err-2.result
    c.limited_heading-2.ensures c.map_err-2.ensures.cases c.in_err-count.was (λ e p k. search rules) in
    rw (p.1, p.2) (arrivals_wrong c.new-reader.ensures.left c.in_ok-draft.ensures is line₂ wrong.0 wrong.1)

pub returns-in_err-arrivals : goal.returns-in_err-arrivals
returns-in_err-arrivals c =
    let p = err_from_is_err_and c.from_residual-in_err-arrivals.result c.from_residual-in_err-arrivals.ensures.1 in
    let is = c.count-rows.ensures ∙ ap (λ d. length (rows_of d)) c.deref.ensures in
    let line₂
    = line_right _ _ _ c.limited_heading.result c.map_err.result c.limited_heading.ensures
    c.map_err.ensures.cases c.in_ok-ticks.was in
    let line₃
    = line_right _ _ _ c.limited_heading-2.result c.map_err-2.result c.limited_heading-2.ensures
    c.map_err-2.ensures.cases c.in_ok-count.was in
    rw (p.1, p.2) (arrival_wrong c.new-reader.ensures.left c.in_ok-draft.ensures is line₂ line₃ c.in_err-arrivals.ensures)

pub returns-in_err-map_err : goal.returns-in_err-map_err
returns-in_err-map_err c =
    let p = err_from_is_err_and c.from_residual-in_err-map_err.result c.from_residual-in_err-map_err.ensures.1 in
    let is = c.count-rows.ensures ∙ ap (λ d. length (rows_of d)) c.deref.ensures in
    let line₂
    = line_right _ _ _ c.limited_heading.result c.map_err.result c.limited_heading.ensures
    c.map_err.ensures.cases c.in_ok-ticks.was in
    let line₃
    = line_right _ _ _ c.limited_heading-2.result c.map_err-2.result c.limited_heading-2.ensures
    c.map_err-2.ensures.cases c.in_ok-count.was in
    let read = c.in_ok-arrivals.ensures in
    let wrong
    = line_wrong _ _ _ (c.count-rows.result + c.in_ok-count.count + 4) c.end.result c.map_err-3.result c.end.ensures
    c.map_err-3.ensures.cases c.in_err-map_err.was (λ e p k. search rules) in
    rw (p.1, p.2)
    (more_wrong c.new-reader.ensures.left c.in_ok-draft.ensures is line₂ line₃ read.0 read.1 wrong.0.0 wrong.1 wrong.0.1)
