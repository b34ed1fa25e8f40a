use Rattle.std.proofs.Common.{◌≡◌, ◌≤◌, ◌<◌, [], append-nil, arith, false, length, refl, rules, sym, true}
use Rattle.std.proofs.lemmas.Bool.Decides.{nat_tests}
use Rattle.mote_text.specs.Script.{script_limit}
use Rattle.mote_text.specs.Script.{script_lines}
use Rattle.network_setup.specs.ScriptRuns.{is_there, no_mote, runs, too_long}
use Rattle.network_setup.proofs.Ending.{ended_in_setup}
use Rattle.network_setup.proofs.script_run.run_script.Goals as goal

pub returns-then-script-clause-ran : goal.returns-then-script-clause-ran
unfolding script_limit
returns-then-script-clause-ran g c = λ named.
    let ended = c.end_at_once.ensures.ended named in
    let long : script_limit < length c.args.script.now = grind (arith, nat_tests, c.if-script.true) in
    (ended.0, ended.1, too_long long ended.2)

pub returns-in-Err-clause-ran : goal.returns-in-Err-clause-ran
unfolding script_limit
returns-in-Err-clause-ran g c = λ named.
    let short : length c.args.script.now ≤ script_limit = grind (arith, nat_tests, c.if-script.false) in
    ended_in_setup c.args.quiet c.args.only c.args.script.now _ _ c.in-Err.number c.in-Err.fault c.end_in_setup.result short
    (λ malformed. rw c.new-setup.ensures at (c.in-Err.ensures.bad_line malformed))
    (λ malformed. c.end_in_setup.ensures.bad_line named malformed)
    (λ memory. let none = c.end_in_setup.ensures.no_memory memory in (none.0, none.1 named))

pub returns-then-not-is_there-clause-ran : goal.returns-then-not-is_there-clause-ran
unfolding script_limit
returns-then-not-is_there-clause-ran g c = λ named.
    let short : length c.args.script.now ≤ script_limit = grind (arith, nat_tests, c.if-script.false) in
    let inputs = c.in-Ok.inputs in
    let absent : is_there c.args.only (length c.read_setup.new.setup.motes) ≡ false = search rules in (
      [],
      sym (append-nil _),
      no_mote inputs.first (script_lines inputs.script.now) c.read_setup.new.setup
          (record { short = short; lines = rw c.new-setup.ensures at c.in-Ok.ensures.set_up; number = c.in-Ok.ensures.first })
          absent refl refl,
    )

pub returns-clause-ran : goal.returns-clause-ran
unfolding script_limit
returns-clause-ran g c = λ named.
    let short : length c.args.script.now ≤ script_limit = grind (arith, nat_tests, c.if-script.false) in
    let inputs = c.in-Ok.inputs in
    let there : is_there c.args.only (length c.read_setup.new.setup.motes) ≡ true = search rules in
    let ran = c.run_setup.ensures.ran named in (
      ran.0,
      ran.1,
      runs inputs.first (script_lines inputs.script.now) c.read_setup.new.setup
          (record { short = short; lines = rw c.new-setup.ensures at c.in-Ok.ensures.set_up; number = c.in-Ok.ensures.first })
          there c.run_setup.ensures.booted ran.2,
    )
