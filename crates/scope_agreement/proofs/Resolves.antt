-- The frames and `resolve` go the same way outwards.
use Rattle.std.proofs.Common.{◌≡◌, ℕ, suc, List, [], ◌∷◌, length, map, Some, None, inl, inr, refl, sym, ◌∙◌, ap}
use Rattle.std.specs.Prelude.{Option}
use Rattle.js_term.specs.Term.{Text}
use Rattle.scope_model.specs.Names.{Origin, here, imported}
use Rattle.scope_model.specs.Scopes.{Entry, Answer, import_of, local, arguments_of, global, arguments_object, declaration, resolve, found, meant_by, entry_of}
use Rattle.scope_agreement.specs.Sites.{Id, Frame, Frames, declarer, declaring}
use Rattle.scope_agreement.specs.Resolving.{env_of, Outside, Tells, Resolving}

further : (f : Frame) (fs : Frames) (a : Answer) (d : Option Id) → Tells fs a d → Tells (f ∷ fs) a d
further f fs (import_of j k) d h = h
further f fs (local n x) d h = (h.0, h.1, inr h.2)
further f fs (arguments_of n) d h = h
further f fs (global x) d h = h

lengths : (fs : Frames) → length (env_of fs) ≡ length fs
lengths [] = refl
lengths (f ∷ fs) = ap suc (lengths fs)

own : (f : Frame) (fs : Frames) (x : Text) (o : Origin) → Tells (f ∷ fs) (meant_by (length (env_of fs)) x o) (Some f.id)
own f fs x (here s) = (f.id, refl, inl (lengths fs, refl))
own f fs x (imported j k) = (f.id, refl)

step : (f : Frame) (fs : Frames) (x : Text) (e : Option Entry) (a : Answer) (d : Option Id) → Tells fs a d → Tells (f ∷ fs) (found e (length (env_of fs)) x a) (declaring e f.id d)
step f fs x None a d h = further f fs a d h
step f fs x (Some (declaration e)) a d h = own f fs x e.origin
step f fs x (Some arguments_object) a d h = refl

pub resolving : Resolving
resolving [] x = refl
resolving (f ∷ fs) x = step f fs x (entry_of f.scope x) (resolve (env_of fs) x) (declarer fs x) (resolving fs x)
