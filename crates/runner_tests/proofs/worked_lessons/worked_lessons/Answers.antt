use Rattle.std.proofs.Common.{[], ◌∷◌, None, refl, arith, rules}
use Rattle.std.specs.Fmt.{digits}
use Rattle.steps.specs.declared.step.Step.TheVariants.{Post, Dispatch, Turn}
use Rattle.runner.specs.Listings.{of_notes}
use Rattle.runner_tests.specs.WorkedLessons.{header, note}
use Rattle.runner_tests.proofs.worked_lessons.worked_lessons.Goals as goal

pub returns : goal.returns
unfolding digits
returns c =
    record {
      number = refl;
      lessons = record {
        short_lesson = of_notes (record {
          header = header;
          steps = Post (note 2) ∷ Turn 1 ∷ Dispatch ∷ [];
          fault = None;
          told = record { written = refl; typed = refl; trays = (omega arith, omega arith); few = omega arith; bytes = search rules };
          lines = refl;
        });
        a_late_note = refl;
        a_fault = refl;
        a_warning = refl;
        nothing = refl;
      };
    }
