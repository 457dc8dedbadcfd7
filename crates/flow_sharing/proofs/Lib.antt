mod SeatLemmas
mod TurnBySeatsLemmas
mod HubLemmas
mod SendingLemmas
