use Rattle.std.proofs.Common.{◌≡◌, ◌+◌, ◌-◌, ◌∙◌, ℕ, List, ap, arith, inr, map, option_map, rules, subst}
use Rattle.network_setup.proofs.Malformed.{is_said, no_motes, passed_on}
use Rattle.network_setup.proofs.MoteWords.{is_setup, one_more_mote}
use Rattle.network_setup.specs.MoteLines.{HaveMotes, SaysNoMote}
use Rattle.network_setup.proofs.setup.Setup.add_motes.Goals as goal

pub loop-mote-preserved : goal.loop-mote-preserved
loop-mote-preserved c =
    let words = map (λ word. word.now) c.in_ok-words.words.items in
    let calls = option_map (λ calls. calls.now) c.in_ok-span.calls in
    let mote = rw c.as_slice.ensures.value at c.in_ok-config.ensures.said in
    one_more_mote c.loop-mote._mote (c.loop-mote._mote + 1) words calls _ c.loop-mote.self _ (omega arith) c.loop-mote.invariant
    (record {
      config = c.in_ok-config.config;
      mote = c.in_ok-add_mote.ensures.added.motes.mote;
      own = c.in_ok-config.applications;
      sizes = is_said words calls c.in_ok-config.config c.in_ok-config.applications.items mote c.in_ok-add_mote.ensures.bootable;
      booted = c.in_ok-add_mote.ensures.added.motes.booted;
      applications = mote.applications;
      added = is_setup _ _ _ _ c.in_ok-add_mote.ensures.added;
    })

pub returns-in_err-config-clause-malformed : goal.returns-in_err-config-clause-malformed
returns-in_err-config-clause-malformed c =
    let calls = option_map (λ calls. calls.now) c.in_ok-span.calls in
    let words = ap (map (λ word. word.now)) c.as_slice.ensures.value ∙ c.in_ok-words.ensures.words in
    passed_on c.from_residual-in_err-config.result _ c.from_residual-in_err-config.ensures.1
    (λ why. no_motes c.args.text.now c.args.self.now _ c.in_ok-span.ensures.said
    (inr (subst (λ (all : List (List ℕ)). SaysNoMote all calls) words why)))
    c.in_err-config.ensures.malformed

pub returns : goal.returns
returns c =
    let span = c.in_ok-span.span in
    let words = map (λ word. word.now) c.in_ok-words.words.items in
    let calls = option_map (λ calls. calls.now) c.in_ok-span.calls in
    let order = c.in_ok-span.ensures.order in
    let many : c.loop-mote._mote ≡ span.last + 1 - span.first =
    omega (arith, c.loop-mote-test.false, c.loop-mote.auto._mote-end, order.0, order.1) in
    record {
      added = record {
        line = record { span = span; words = words; calls = calls };
        said = rw c.in_ok-words.ensures.words c.in_ok-span.ensures.said;
        next = search rules;
        added = subst (λ (n : ℕ). HaveMotes n words calls c.args.self.now c.loop-mote.self) many c.loop-mote.invariant;
      };
      malformed = tt;
    }
