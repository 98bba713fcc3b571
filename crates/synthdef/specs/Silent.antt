-- Silence (SPEC 7.1): a node is silent by its done flag, or by the rule of its kind. The rule speaks of the silence of
-- other nodes, so it is an equation that an answer has to meet at every node (SPEC 21.7).
use Rattle.std.specs.Prelude.{ℕ, zero, suc, ◌≡◌, List, Bool, true, false, ◌&&◌, ◌||◌, get_or, ltb, Option, None, Some, slice_get}
use Rattle.node.specs.Silence.{silence_of}
use Rattle.node.specs.declared.silence.SilenceRule.{SilenceRule}
use Rattle.node.specs.declared.silence.SilenceRule.TheVariants.{Own, AnyPort, FirstPort, EveryPort, LevelPort, AmpPort, InPort}
use Rattle.synthdef.specs.Edges.{source_at}
use Rattle.synthdef.specs.declared.def.DefNode.{DefNode}
use Rattle.synthdef.specs.declared.def.DefEdge.{DefEdge}

-- some, and every, of the k ports from p on
abbrev pub any_from : ℕ → ℕ → (ℕ → Bool) → Bool
any_from p zero q = false
any_from p (suc k) q = q p || any_from (suc p) k q

abbrev pub every_from : ℕ → ℕ → (ℕ → Bool) → Bool
every_from p zero q = true
every_from p (suc k) q = q p && every_from (suc p) k q

-- a port that the host gives by name; a number that is no port of the node stands for none
abbrev pub of_port : ℕ → DefNode → (ℕ → Bool) → Bool
of_port p n q = ltb p n.ports && q p

-- by kind name, where `q p` says that port p is connected and its source silent
abbrev pub by_rule : SilenceRule → DefNode → (ℕ → Bool) → Bool
by_rule Own n q = false
by_rule AnyPort n q = any_from 0 n.ports q
by_rule FirstPort n q = q 0
by_rule EveryPort n q = ltb 0 n.ports && every_from 0 n.ports q
by_rule LevelPort n q = of_port n.level_port n q
by_rule AmpPort n q = of_port n.amp_port n q
by_rule InPort n q = of_port n.in_port n q

abbrev pub silent_source : (ℕ → Bool) → Option ℕ → Bool
silent_source s None = false
silent_source s (Some j) = s j

-- node i, which is n, is silent by its kind name, where s says which nodes are silent and `es` are the counted edges
abbrev pub by_kind : List DefEdge → (ℕ → Bool) → DefNode → ℕ → Bool
by_kind es s n i = by_rule (silence_of n.kind) n (λ p. silent_source s (source_at es i p))

-- s says which nodes are silent: at each node it is as the rule says
abbrev pub Silence : List DefNode → List DefEdge → List Bool → (ℕ → Bool) → Type 0
Silence ns es done s = (i : ℕ) (n : DefNode) → slice_get ns i ≡ Some n → s i ≡ (get_or done i false || by_kind es s n i)
