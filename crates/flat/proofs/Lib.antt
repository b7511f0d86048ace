pub mod CloseTrip
