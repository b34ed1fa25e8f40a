use Rattle.std.proofs.Common.{◌≡◌, ◌∙◌, ap, sym, subst, slice_range}
use Rattle.std.proofs.lemmas.Result.{IfOk-weaker}
use Rattle.mote_picture.specs.Data.{IsHarmless}
use Rattle.mote_picture.specs.Page.{begins_with, ended_lines}
use Rattle.mote_picture.proofs.page.page_between.Goals as goal

pub returns : goal.returns
returns c =
    let first = c.shown_of-shown.result.first in
    let end = c.shown_of-shown.result.end in
    let text : c.as_str.result.now ≡ ended_lines (slice_range c.args.lines.now first end) = c.as_str.ensures.value ∙ c.in_ok-text.ensures in
    let members : c.in_ok-members.members
    ≡ begins_with (ended_lines (slice_range c.args.lines.now first end)) c.args.title.now c.in_ok-rest.rest =
    c.in_ok-members.ensures ∙ ap (λ front. begins_with front c.args.title.now c.in_ok-rest.rest) text in
    IfOk-weaker c.filled.result _ _
    (λ page same. record {
      first = first;
      end = end;
      order = c.shown_of-shown.ensures.order;
      there = c.shown_of-shown.ensures.there;
      from_start = c.shown_of-shown.ensures.first;
      to_end = c.shown_of-shown.ensures.last;
      rest = c.in_ok-rest.rest;
      is_harmless = subst IsHarmless members c.is_harmless.ensures;
      whole = rw (sym members) same;
    })
    c.filled.ensures
