use Rattle.mote_kit.proofs.run_file.parts.read_parts.Goals as goal

pub returns : goal.returns
returns c = c.push_parts.ensures c.args.text.now
