use Rattle.ui_build_tests.proofs.steps.a_step_is_counted.Given as goal

abbrev pub ghosts-counts : goal.ghosts-counts
ghosts-counts a = record { name = a.blank.name; parts = a.blank.parts }
