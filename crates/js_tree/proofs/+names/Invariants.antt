use Rattle.std.proofs.Common.{take, drop}
use Rattle.std.specs.Fn.{CalledAt}
use Rattle.std.specs.List.{FoldsTo}
use Rattle.js_tree.specs.BoundNames.{CallableAtEach, all_names}
use Rattle.js_tree.proofs.+names.Given as goal

abbrev pub invariant-binding::each_name-loop-part : goal.invariant-binding::each_name-loop-part
invariant-binding::each_name-loop-part g l = record {
  callable : CallableAtEach g.F.FnMut l.f (all_names (drop l.part-index l.parts));
  called : FoldsTo (λ p n q. CalledAt g.F.FnMut p n tt q) l.fn.f (all_names (take l.part-index l.parts)) l.f;
}
