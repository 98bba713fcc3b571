-- The page's scene with a definition as the code holds it: rate 8000, block 16, budget 2, `Oldest`, `Global`; node 0 a
-- bus of 3 ports and sink; a definition of one node, `Tone`. Managed spawns at clock 0, 16 and 32, a prepare and a
-- render after each (SPEC 14.2).
use Rattle.std.specs.Prelude.{◌≡◌, refl, List, [], ◌∷◌, ◌++◌, false, replicate}
use Rattle.std.specs.Float.Ieee.{eq}
use Rattle.node.specs.Name.{name_of}
use Rattle.synthdef.specs.Plan.{settled}
use Rattle.synthdef.specs.declared.def.SynthDef.{SynthDef}
use Rattle.rank.specs.Order.{among, fed, released, walk, order, whole, count_up}
use Rattle.prepare.specs.Live.{rising_from, live_nodes, live_ids, processing_order}
use Rattle.prepare.specs.Required.{any, lacks, lacking}
use Rattle.prepare.specs.Prepare.{prepare}
use Rattle.voice.specs.Voice.{id}
use Rattle.model.specs.Make.{new_model}
use Rattle.model.specs.Call.{Call, Ran, run}
use Rattle.model.specs.Call as call
use Rattle.model.specs.Page.{port_now, page}
use Rattle.model.specs.Scene.{plain, float, host, sink, page_config, printed}
use Rattle.model.specs.Spawn.{spawn_of}

-- a one-node definition `Tone`. Rows past a count are no part of it.
abbrev pub tone : SynthDef
tone =
    record {
      nodes = record { rows = replicate 24 (plain "Tone" false false); count = 1 };
      edges = record { rows = replicate 48 (record { from = 0; to = 0; port = 0 }); count = 0 };
      params = record { rows = replicate 8 (record { name = name_of []; node = 0 }); count = 0 };
      output = 0;
    }

abbrev pub opening : List Call
opening = host 3 ∷ sink 0 ∷ []

abbrev pub turn : List Call
turn = call.spawn_managed (spawn_of tone (id 0) (float 0) 0) ∷ call.prepare ∷ call.render (replicate 256 0) ∷ []

abbrev pub scene_calls : List Call
scene_calls = opening ++ (turn ++ (turn ++ turn))

unfoldable pub played : Ran
played = run scene_calls (new_model page_config)

-- its page is the one that SPEC 14.2 shows
pub played_page :
    page played.model.shared.clock (port_now played.model.shared.graph.edges) played.model.voices ≡ printed
unfolding played eq prepare processing_order lacking lacks any live_ids live_nodes rising_from whole order walk released
    fed among count_up settled
played_page = refl
