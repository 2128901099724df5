pub mod HomotheticVerdict
