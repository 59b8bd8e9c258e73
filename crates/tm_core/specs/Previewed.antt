-- What a preview of a core's next step is of a machine: what others see of the step is kept in it, by which its hits
-- are told later. Its other parts are told by tm_model's Explained.
use Rattle.std.specs.Prelude.{◌≡◌, ℕ, ◌<◌, List, None, length}
use Rattle.tm_model.specs.Setting.{Setting}
use Rattle.tm_model.specs.Shown.{View}
use Rattle.tm_model.specs.State.{Pending, seen_memory}
use Rattle.tm_core.specs.declared.foretell.Foretold.{Foretold}
use Rattle.tm_core.specs.declared.foretell.Touches.TheVariants.{WriteSet}
use Rattle.tm_core.specs.declared.preview.Preview.{Preview}
use Rattle.tm_core.specs.ExplainedViews.{AreWithin, reach_shown, reach_told, reason_shown, touched_told}
use Rattle.tm_core.specs.Representation.{AreLines}
use Rattle.tm_core.specs.PendingStep.{stepped_pending}
use Rattle.tm_core.specs.Theorem.{ShownMachine, machine_setting, pending_at, view_at}

-- What the next step comes to of a core that shows this, and of which these stores are pending: what others see of it;
-- and the bytes that its instruction reaches, and why it is an abort, if it is one, on memory as the core sees it.
pub record IsForetold (setting : Setting) (memory : List ℕ) (pending : Pending) (view : View) (told : Foretold)
    : Type 0 where
  pub touches : touched_told view.writes told.touched ≡ (stepped_pending None setting memory pending view).touched
  pub within : AreWithin (length memory) told.touched
  pub written : told.touched ≡ WriteSet → AreLines view.writes (length memory)
  pub reach : reach_told told.reach ≡ reach_shown setting (seen_memory memory pending) view view.mode
  pub reason : told.reason ≡ reason_shown setting (seen_memory memory pending) view view.mode

pub record IsPreview (machine : ShownMachine) (preview : Preview) : Type 0 where
  pub exists : preview.core < length machine.views
  pub touches : touched_told (view_at machine preview.core).writes preview.touched
      ≡ (stepped_pending None (machine_setting machine) machine.memory (pending_at machine preview.core)
      (view_at machine preview.core)).touched
  pub within : AreWithin (length machine.memory) preview.touched
  pub written : preview.touched ≡ WriteSet → AreLines (view_at machine preview.core).writes (length machine.memory)
