-- Control requests, as setup packets (Bulk-Only Transport 1.0, 3; USB 2.0, 9.4).
use Rattle.std.specs.Prelude.{ℕ, List, [], ◌∷◌}
use Rattle.spec.specs.declared.case.Endpoint.{Endpoint}
use Rattle.spec.specs.declared.case.Endpoint.TheVariants.{In, Out}

-- the requests that the transport knows
pub data Request : Type 0 where
  mass_storage_reset : Request
  get_max_lun : Request
  clear_halt : Endpoint → Request
  get_status : Endpoint → Request

-- the address of an endpoint
abbrev pub address_of : Endpoint → ℕ
address_of In = 0x81
address_of Out = 0x02

-- the setup packet of a request
abbrev pub setup_packet : Request → List ℕ
setup_packet mass_storage_reset = 0x21 ∷ 0xff ∷ 0 ∷ 0 ∷ 0 ∷ 0 ∷ 0 ∷ 0 ∷ []
setup_packet get_max_lun = 0xa1 ∷ 0xfe ∷ 0 ∷ 0 ∷ 0 ∷ 0 ∷ 1 ∷ 0 ∷ []
setup_packet (clear_halt endpoint) = 0x02 ∷ 1 ∷ 0 ∷ 0 ∷ address_of endpoint ∷ 0 ∷ 0 ∷ 0 ∷ []
setup_packet (get_status endpoint) = 0x82 ∷ 0 ∷ 0 ∷ 0 ∷ address_of endpoint ∷ 0 ∷ 2 ∷ 0 ∷ []
