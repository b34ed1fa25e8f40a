use Rattle.mote_kit.proofs.mote.run_script.Given as goal

-- the script's bytes
abbrev pub ghosts-run_fixed : goal.ghosts-run_fixed
ghosts-run_fixed g a = record { bytes = a.script.now }
