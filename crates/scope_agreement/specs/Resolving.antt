-- What the frames round a place say of a name, and what `resolve` answers there.
use Rattle.std.specs.Prelude.{◌≡◌, ◌⊎◌, ℕ, List, [], ◌∷◌, length, map, Option, None, Some}
use Rattle.js_term.specs.Term.{Text}
use Rattle.scope_model.specs.Scopes.{Env, Answer, import_of, local, arguments_of, global, resolve}
use Rattle.scope_agreement.specs.Sites.{Id, Frame, Frames, declarer}

-- the scopes of frames
abbrev pub env_of : Frames → Env
env_of fs = map (λ f. f.scope) fs

-- the id of the frame outside of which so many stand
abbrev pub Outside : Frames → ℕ → Id → Type 0
Outside [] d i = ⊥
Outside (f ∷ fs) d i = ((d ≡ length fs) × (i ≡ f.id)) ⊎ Outside fs d i

-- Where `resolve` answers a local, the scope of that number declares the name; where it answers an import, some scope
-- does; and where it answers the arguments object or a global, none does.
abbrev pub Tells : Frames → Answer → Option Id → Type 0
Tells fs (import_of j k) d = (i : Id) × (d ≡ Some i)
Tells fs (local n x) d = (i : Id) × (d ≡ Some i) × Outside fs n i
Tells fs (arguments_of n) d = d ≡ None
Tells fs (global x) d = d ≡ None

abbrev pub Resolving : Type 0
Resolving = (fs : Frames) (x : Text) → Tells fs (resolve (env_of fs) x) (declarer fs x)
