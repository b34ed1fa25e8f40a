use Rattle.std.proofs.Common.{◌≡◌, arith, false, length, map, nat_le, option_map, rules}
use Rattle.std.proofs.lemmas.Bool.Decides.{nat_tests}
use Rattle.network_setup.proofs.Malformed.{all_said, are_said, passed_on, too_many}
use Rattle.network_setup.specs.MoteLines.{no_list}
use Rattle.network_setup.proofs.setup.read_mote.Goals as goal

pub returns-in_err-add_listed-clause-malformed : goal.returns-in_err-add_listed-clause-malformed
returns-in_err-add_listed-clause-malformed c =
    passed_on c.from_residual-in_err-add_listed.result _ c.from_residual-in_err-add_listed.ensures.1 (λ bad. no_list bad.0 bad.1 bad.2)
    c.in_err-add_listed.ensures.malformed

pub returns-then-len-gt-MOST_APPLICATIONS-clause-malformed : goal.returns-then-len-gt-MOST_APPLICATIONS-clause-malformed
returns-then-len-gt-MOST_APPLICATIONS-clause-malformed c =
    let words = map (λ word. word.now) c.args.words.now in
    let calls = option_map (λ calls. calls.now) c.args.calls in
    let taken = c.in_ok-take_words.ensures.taken in
    let own = c.add_listed.new.applications.items in
    let many : nat_le (length own) 16 ≡ false = grind (arith, nat_tests, c.if-len-gt-MOST_APPLICATIONS.true, c.len.ensures) in
    too_many words calls c.take_words.new.config own
    (are_said words calls _ _ _ _ own c.new-applications.ensures.items taken c.in_ok-add_listed.ensures.added) taken.sizes many

pub returns-clause-said : goal.returns-clause-said
returns-clause-said c =
    let words = map (λ word. word.now) c.args.words.now in
    let calls = option_map (λ calls. calls.now) c.args.calls in
    let taken = c.in_ok-take_words.ensures.taken in
    let own = c.add_listed.new.applications.items in
    all_said words calls c.take_words.new.config c.len-2.result own
    (are_said words calls _ _ _ _ own c.new-applications.ensures.items taken c.in_ok-add_listed.ensures.added) taken.sizes (search rules)
